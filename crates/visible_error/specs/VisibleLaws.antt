-- Laws of the visible error: where its rows lie in source and canvas, a row as the distance of two runs, its most, and what passes the refusals.
-- Assumes nothing.
use Prim.Native.Nat.{ℕ, zero, suc, ◌+◌, ◌*◌, ◌/◌, ◌%◌, ◌≤◌, ◌<◌}
use Rattle.std.specs.Prelude.{◌≡◌, eqb, length}
use Rattle.std.proofs.Math.Path.{sym, ap}
use Rattle.std.proofs.Common.{◌∙◌, mod-lt, div-lt_iff_lt-mul, mul-le-mul, mul-le-mul_right, suc-mul, mul_comm, eqb-true, ne_eqb}
use native.Mathlib.Omega.{arith}
use Rattle.bits.specs.Basics.{Bytes, sum}
use Rattle.bits.specs.Refusals.{done, refused}
use Rattle.bits.specs.BasicsLaws.{or_next, unless-none, first-none}
use Rattle.bits.specs.FillLaws.{run_of, length_run, run_at}
use Rattle.bits.specs.SumLaws.{sum_same}
use Rattle.canvas.specs.Canvas.{largest_side, blocks_along, size_refusal, canvas_refusal, source_links}
use Rattle.canvas.specs.CanvasLaws.{plane_passes}
use Rattle.leaf.specs.Leaf.{sse}
use Rattle.leaf.specs.DistanceLaws.{square_of, sse-sum, gap_most}
use Rattle.visible_error.specs.Visible.{ShownPlane, square_at, visible_total, visible_refusal, visible_answer}
use Rattle.visible_error.specs.VisibleNeeds.{shown_blocks, Showable}

-- a run of a row ends inside the rows
row_fits : (row rows wide b : ℕ) → row < rows → b ≤ wide → row * wide + b ≤ rows * wide
row_fits row rows wide b h l =
    let up : suc row * wide ≤ rows * wide = mul-le-mul_right wide h in
    omega (arith, suc-mul row wide, up)

module _ (s : ShownPlane) (ok : Showable s) where
  -- ---- where macroblock k begins
  module _ (k : ℕ) (h : k < shown_blocks s) where
    some_cols : 0 < blocks_along s.width
    some_cols = omega (arith, ok.fits.width.some)

    pub x_in : 16 * (k % blocks_along s.width) < s.width
    x_in = omega (arith, mod-lt k some_cols)

    pub y_in : 16 * (k / blocks_along s.width) < s.height
    y_in =
        let q : k / blocks_along s.width < blocks_along s.height = (div-lt_iff_lt-mul some_cols).1 h in
        omega arith

  -- a plane has few of them
  pub blocks_few : shown_blocks s ≤ blocks_along largest_side * blocks_along largest_side
  blocks_few =
      let h : blocks_along s.height ≤ blocks_along largest_side = omega (arith, ok.fits.height.most) in
      let w : blocks_along s.width ≤ blocks_along largest_side = omega (arith, ok.fits.width.most) in
      mul-le-mul h w

  -- ---- n samples of row y from column x on
  module _ (x y n : ℕ) (wide : x + n ≤ s.width) (high : y < s.height) where
    pub source_end : y * s.width + x + n ≤ length s.source
    source_end = omega (arith, row_fits y s.height s.width (x + n) high wide, ok.samples, mul_comm s.width s.height)

    pub recon_end : y * s.recon.stride + x + n ≤ length s.recon.samples
    recon_end =
        let w : x + n ≤ s.recon.stride = omega (arith, ok.fits.stride) in
        let r : y < s.recon.rows = omega (arith, ok.fits.rows) in
        omega (arith, row_fits y s.recon.rows s.recon.stride (x + n) r w, ok.fits.samples, mul_comm s.recon.stride s.recon.rows)

    abbrev row_sum : ℕ
    row_sum = sum (λ i. square_at s (x + i) y) n

    pub row_is : sse (run_of s.source (y * s.width + x) n) (run_of s.recon.samples (y * s.recon.stride + x) n) ≡ row_sum
    unfolding square_at
    row_is =
        let a = y * s.width + x in
        let b = y * s.recon.stride + x in
        let la = length_run s.source a n source_end in
        let lb = length_run s.recon.samples b n recon_end in
        sse-sum (run_of s.source a n) (run_of s.recon.samples b n) (la ∙ sym lb)
        ∙ ap (sum (square_of (run_of s.source a n) (run_of s.recon.samples b n))) la
        ∙ sum_same _ _ n (λ i l.
        let pa : a + i ≡ y * s.width + (x + i) = omega arith in
        let pb : b + i ≡ y * s.recon.stride + (x + i) = omega arith in
        rw (run_at s.source a n i l, run_at s.recon.samples b n i l, pa, pb))

  module _ (source_bytes : Bytes s.source) (recon-bytes : Bytes s.recon.samples) where
    pub row_most : (x y n : ℕ) → sum (λ i. square_at s (x + i) y) n ≤ 65025 * n
    unfolding sum square_at
    row_most x y zero = omega arith
    row_most x y (suc n) = omega (arith, row_most x y n, gap_most _ _ (source_bytes (y * s.width + (x + n))) (recon-bytes (y * s.recon.stride + (x + n))))

-- ---- what passes the refusals
pub passes : (s : ShownPlane) → visible_refusal s ≡ 0 → Showable s
passes s e =
    let p = first-none (source_links s.width s.height (length s.source) s.recon) e in
    record {
      fits = plane_passes s.width s.height s.recon (or_next (size_refusal s.width s.height) (canvas_refusal s.width s.height s.recon) p.0 ∙ p.1.1.0);
      samples = eqb-true (length s.source) (s.width * s.height) (unless-none (eqb (length s.source) (s.width * s.height)) 2 (omega arith) p.1.0);
    }

-- ---- the answer
pub answer_refused : (s : ShownPlane) (r : ℕ) → r ≡ visible_refusal s → (r ≡ 0 → ⊥) → refused r ≡ visible_answer s
unfolding visible_answer
answer_refused s r e h = rw (← e, ne_eqb r 0 h)

pub answer_shown : (s : ShownPlane) (n : ℕ) → visible_refusal s ≡ 0 → n ≡ visible_total s → done n ≡ visible_answer s
unfolding visible_answer
answer_shown s n z e = rw (z, e)
