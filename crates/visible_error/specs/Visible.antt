-- The error over the samples that the panel shows (document 02, §1): reconstruction against source as lent, without the columns and rows that are repeated beyond the picture.
use Rattle.std.specs.Prelude.{ℕ, ◌+◌, ◌-◌, ◌*◌, ◌/◌, ◌%◌, min, List, length, get_or}
use Rattle.bits.specs.Basics.{first_of, gap, sum}
use Rattle.bits.specs.Refusals.{Answer, done}
use Rattle.bits.specs.Calls.{unless_refused}
use Rattle.canvas.specs.Canvas.{Canvas, blocks_along, source_links}

-- a plane of a size: its source, width × height samples, and the canvas that holds its reconstruction
pub record ShownPlane : Type 0 where
  pub width : ℕ
  pub height : ℕ
  pub source : List ℕ
  pub recon : Canvas

-- the squared distance of reconstruction and source at column x of row y
unfoldable pub square_at : ShownPlane → ℕ → ℕ → ℕ
square_at s x y =
    let d = gap (get_or s.source (y * s.width + x) 0) (get_or s.recon.samples (y * s.recon.stride + x) 0) in
    d * d

-- of a macroblock's 16 columns or rows from place o on, those that lie inside a side of n samples
abbrev pub inside_from : ℕ → ℕ → ℕ
inside_from n o = min 16 (n - o)

-- macroblock k, counted in raster order: the sum over its samples inside width × height
unfoldable pub visible_error : ShownPlane → ℕ → ℕ
visible_error s k =
    let x = 16 * (k % blocks_along s.width) in
    let y = 16 * (k / blocks_along s.width) in
    sum (λ j. sum (λ i. square_at s (x + i) (y + j)) (inside_from s.width x)) (inside_from s.height y)

-- the plane: the sum over its macroblocks
unfoldable pub visible_total : ShownPlane → ℕ
visible_total s = sum (visible_error s) (blocks_along s.height * blocks_along s.width)

-- as a call: the refusals 1 to 4, the canvas judged as a reference's is, or the plane's error
abbrev pub visible_refusal : ShownPlane → ℕ
visible_refusal s = first_of (source_links s.width s.height (length s.source) s.recon)

unfoldable pub visible_answer : ShownPlane → Answer ℕ
visible_answer s = unless_refused (visible_refusal s) (done (visible_total s))
