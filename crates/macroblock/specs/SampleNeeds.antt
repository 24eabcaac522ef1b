-- A macroblock's 256 samples in a plane, and its quarters moved each by a vector of its own (document 01, `svq1_enc_inter.rs`).
use Rattle.std.specs.Prelude.{List, map, ◌≡◌, ℕ, ◌*◌, ◌/◌, ◌%◌, ◌<◌, get_or}
use Rattle.bits.specs.Basics.{Bytes, values_from, signed_byte}
use Rattle.book.specs.Book.{codebook_bytes}
use Rattle.book.specs.declared.svq1_vlc.Svq1Half.{Svq1Half}
use Rattle.codebook.specs.CodebookForms.{raised_codebook}
use Rattle.vectors.specs.declared.svq1_motion_predictor.Svq1Mv.{Svq1Mv}
use Rattle.vectors.specs.Vectors.{zero_mv}
use Rattle.canvas.specs.Canvas.{Canvas}
use Rattle.compensation.specs.Compensation.{moved_sample}
use Rattle.mv_cache.specs.Grid.{put_part}
use Rattle.compensation.specs.MovedForms.{Placed}
use Rattle.tree.specs.TreeBits.{Node}
use Rattle.tree.specs.WalkNeeds.{SoundTree}
use Rattle.canvas.specs.declared.svq1_plane.Svq1PlaneCanvas.{Svq1PlaneCanvas}
use Rattle.macroblock.specs.Macroblock.{Choice, vector_for, shown}
use Rattle.macroblock.specs.MacroblockNeeds.{given_by}
use Rattle.macroblock.specs.Slices.{Slices}

-- macroblock k of a canvas that is cols macroblocks wide
pub record Stands (c : Canvas) (cols k : ℕ) : Type 0 where
  pub wide : 0 < cols
  pub across : c.stride ≡ 16 * cols
  pub placed : Placed c (16 * (k % cols)) (16 * (k / cols))

-- macroblock k's samples and vectors, put into the three slices; every other entry stays
pub record Laid (cols k : ℕ) (samples : List ℕ) (vs : List Svq1Mv) (u w : Slices) : Type 0 where
  pub recon_put : w.recon ≡ put_part 16 cols k samples u.recon
  pub vx_put : w.vx ≡ put_part 2 cols k (map (λ (v : Svq1Mv). signed_byte v.x) vs) u.vx
  pub vy_put : w.vy ≡ put_part 2 cols k (map (λ (v : Svq1Mv). signed_byte v.y) vs) u.vy

-- the macroblock at (x, y), each quarter moved by the vector in its place
unfoldable pub quarters : Canvas → ℕ → ℕ → List Svq1Mv → List ℕ
quarters c x y vs =
    values_from (λ j. moved_sample c 16 x y (vector_for (get_or vs 0 zero_mv) (get_or vs 1 zero_mv) (get_or vs 2 zero_mv) (get_or vs 3 zero_mv) j) j) 256 0

-- ---- what a tree shows
-- macroblock k of a canvas, the raised codebook's size, and a tree that can be shown
pub record Showing (c : Canvas) (cols k raised : ℕ) (h : Svq1Half) (t : List Node) : Type 0 where
  pub place : Stands c cols k
  pub copy : raised ≡ codebook_bytes
  pub sound : SoundTree h t

-- the samples out are what a choice shows, by any codebook whose raised copy was lent
abbrev pub Shows : Svq1PlaneCanvas → List ℕ → List ℕ → ℕ → Choice → List ℕ → Type 0
Shows c reference raised k d out =
    (book codebook : List ℕ) → Bytes codebook → raised ≡ raised_codebook codebook → out ≡ shown (given_by c reference book codebook) k d
