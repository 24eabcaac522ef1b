-- What the functions of `inner` ask of the canvas and the slices, from what the refusals leave.
-- Assumes nothing.
use Rattle.std.specs.Prelude.{◌≡◌, List, ℕ, suc, ◌*◌, ◌/◌, ◌%◌, ◌<◌, length}
use Rattle.std.proofs.Common.{sym, ap, ◌∙◌, arith, mod-lt, div-lt_iff_lt-mul, mul_comm, mul_assoc}
use Rattle.bits.specs.BasicsLaws.{or_next}
use Rattle.book.specs.Book.{book_refusal}
use Rattle.book.specs.BookLaws.{data_passes}
use Rattle.mv_cache.specs.CacheNeeds as cache
use Rattle.mv_cache.specs.Grid.{owner}
use Rattle.mv_cache.specs.GridLaws.{in_owner}
use Rattle.canvas.specs.Canvas.{size_refusal}
use Rattle.canvas.specs.CanvasLaws.{Fitting, plane_passes}
use Rattle.macroblock.specs.Macroblock.{Given, cols, rows}
use Rattle.macroblock.specs.Slices.{Slices, x_slice, y_slice}
use Rattle.macroblock.specs.MacroblockNeeds.{Accepted, Held}
use Rattle.macroblock.specs.SampleNeeds.{Stands}

-- four block vectors a macroblock, two rows of two
pub four_each : (r c : ℕ) → 4 * (r * c) ≡ r * 2 * (2 * c)
four_each r c =
    let m : 4 * r ≡ r * 2 * 2 = omega arith in
    sym (mul_assoc 4 r c) ∙ ap (λ (x : ℕ). x * c) m ∙ mul_assoc (r * 2) 2 c

module _ (g : Given) (raised : List ℕ) (ok : Accepted g raised) where
  pub fits : Fitting g.width g.height g.reference
  fits = plane_passes g.width g.height g.reference (or_next (size_refusal g.width g.height) _ ok.size ∙ ok.canvas)

  pub book_passes : book_refusal g.book ≡ 0
  book_passes = (data_passes g.book g.codebook ok.tables).1

  pub wide : 0 < cols g
  wide = omega (arith, fits.width)

  -- macroblock k in the reference
  pub stands : (k : ℕ) → k < rows g * cols g → Stands g.reference (cols g) k
  stands k h =
      let q : k / cols g < rows g = (div-lt_iff_lt-mul wide).1 h in
      let r : k % cols g < cols g = mod-lt k wide in
      let f = fits in
      record {
        wide = wide;
        across = f.stride;
        placed = record {
          canvas_len = f.samples;
          stride_most = omega (arith, f.stride, f.width.most);
          rows_most = omega (arith, f.rows, f.height.most);
          x_in = omega (arith, f.stride);
          y_in = omega (arith, f.rows);
        };
      }

  module _ (s : Slices) (held : Held g s) where
    -- the vector slices
    pub vectors_held : cache.VectorSlices (cols g) (rows g) s.vx s.vy
    vectors_held = record {
      wide = wide;
      cols_most = omega (arith, fits.width.most);
      rows_most = omega (arith, fits.height.most);
      x_holds = omega (arith, held.blocks_long x_slice, four_each (rows g) (cols g));
      y_holds = omega (arith, held.blocks_long y_slice, four_each (rows g) (cols g));
    }

    -- macroblock k in the reconstruction
    pub recon_held : (k : ℕ) → k < rows g * cols g → cache.BlocksRoom 16 (cols g) k s.recon
    recon_held k h =
        let f = fits in
        let size : length s.recon ≡ rows g * 16 * (16 * cols g) =
        held.recon_whole ∙ rw (f.stride, f.rows) (mul_comm (16 * cols g) (16 * rows g) ∙ ap (λ (n : ℕ). n * (16 * cols g)) (mul_comm 16 (rows g))) in
        let far : (j : ℕ) → owner 16 (cols g) j < suc k → j < length s.recon = λ j l. omega (arith, size, in_owner 16 (cols g) (omega arith) wide (rows g) j (omega arith)) in
        record { some = omega arith; side_most = omega arith; wide = wide; cols_most = omega (arith, f.width.most); holds = far }
