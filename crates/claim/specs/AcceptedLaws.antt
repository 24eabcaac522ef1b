-- Laws of acceptance: what is known of a plane that no refusal meets.
-- Assumes nothing.
use Rattle.std.specs.Prelude.{◌≡◌, ℕ, ◌*◌, ◌<◌, List, length}
use Rattle.std.proofs.Common.{ap, ◌∙◌, arith, mul_comm}
use Rattle.bits.specs.BasicsLaws.{or_next, length_values}
use Rattle.book.specs.Book.{data_refusal}
use Rattle.book.specs.BookLaws.{data_passes}
use Rattle.canvas.specs.Canvas.{blocks_along, padded16, size_refusal, canvas_refusal}
use Rattle.canvas.specs.CanvasLaws.{plane_passes}
use Rattle.macroblock.specs.Macroblock.{Given, cols, rows}
use Rattle.macroblock.specs.Choice.{Task, padded_source}
use Rattle.macroblock.specs.MacroblockLaws.{Fine}
use Rattle.macroblock.specs.Slices.{Slices}
use Rattle.plane.specs.Refusals.{lengths_of, slices_refusal, write_refusal_by}
use Rattle.plane.specs.RefusalsLaws.{slices_held, write_accepted}
use Rattle.plane.specs.SlicesLaws.{SizedSlices}
use Rattle.claim.specs.Claim.{InMemory}

pub record AcceptedPlane (g : Given) (t : Task) : Type 0 where
  pub fine : Fine g t
  pub wide : 0 < cols g
  pub canvas : g.reference.stride * g.reference.rows ≡ rows g * 16 * (16 * cols g)
  pub reference_size : length g.reference.samples ≡ rows g * 16 * (16 * cols g)
  pub size_passes : size_refusal g.width g.height ≡ 0
  pub canvas_passes : canvas_refusal g.width g.height g.reference ≡ 0
  pub data_passes : data_refusal g.book g.codebook ≡ 0

-- the samples of a padded plane
area : (width height : ℕ) → padded16 width * padded16 height ≡ blocks_along height * 16 * padded16 width
area width height = mul_comm (padded16 width) (padded16 height) ∙ ap (λ (n : ℕ). n * padded16 width) (mul_comm 16 (blocks_along height))

pub accepted : (g : Given) (t : Task) (bytes start : ℕ) (a : Slices) → InMemory g t → write_refusal_by g (length t.source) bytes start (lengths_of a) ≡ 0 → AcceptedPlane g t
accepted g t bytes start a mem e =
    let p = (write_accepted g a bytes start (length t.source) e).0 in
    let f = plane_passes g.width g.height g.reference (or_next (size_refusal g.width g.height) _ p.size ∙ p.canvas) in
    let whole : g.reference.stride * g.reference.rows ≡ rows g * 16 * (16 * cols g) = rw (f.stride, f.rows) (area g.width g.height) in
    record {
      fine = record { book = (data_passes g.book g.codebook p.tables).1; source_bytes = mem.source; reference_bytes = mem.reference };
      wide = omega (arith, f.width.some);
      canvas = whole;
      reference_size = f.samples ∙ whole;
      size_passes = p.size;
      canvas_passes = p.canvas;
      data_passes = p.tables;
    }

pub slices_sized : (g : Given) (t : Task) → AcceptedPlane g t → (d : Slices) → slices_refusal g d ≡ 0 → SizedSlices g d
slices_sized g t ok d e =
    let h = slices_held g d e in
    record { recon = h.recon_whole ∙ ok.canvas; blocks = h.blocks_long }

pub padded_size : (width height : ℕ) (source : List ℕ) → length (padded_source width height source) ≡ blocks_along height * 16 * padded16 width
unfolding padded_source
padded_size width height source = length_values _ (padded16 width * padded16 height) 0 ∙ area width height
