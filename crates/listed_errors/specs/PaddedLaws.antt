-- Laws of the visible error beside the padded one (document 02, §1): it is never above it, it is the same where both sides are whole macroblocks, and a plane's counts each sample once.
-- Assumes nothing.
use Prim.Native.Nat.{ℕ, zero, suc, ◌+◌, ◌-◌, ◌*◌, ◌/◌, ◌%◌, ◌≤◌, ◌<◌, min}
use Rattle.std.specs.Prelude.{◌≡◌, get_or}
use Rattle.std.proofs.Common.{sym, ap, ap₂, ◌∙◌, div-lt_iff_lt-mul, add-zero, le_trans}
use Rattle.std.proofs.Math.Decide.{dec_le}
use Rattle.std.proofs.Math.Nat.{mod-lt}
use native.Mathlib.Omega.{arith}
use Rattle.std.proofs.Math.Arith.{digits_div, digits_mod}
use Rattle.bits.specs.Basics.{gap, sum}
use Rattle.bits.specs.SumLaws.{sum_same, sum_le, sum_each_le, sum_add, sum_rows_lem, sum_swap}
use Rattle.canvas.specs.Canvas.{blocks_along, padded16}
use Rattle.leaf.specs.Leaf.{sse}
use Rattle.leaf.specs.DistanceLaws.{square_of}
use Rattle.mv_cache.specs.Grid.{entry_of, part}
use Rattle.macroblock.specs.Choice.{padded_source, target_of}
use Rattle.macroblock.specs.SourceLaws.{padded_at_lem}
use Rattle.claim.specs.SumLaws.{sse-part}
use Rattle.visible_error.specs.Visible.{ShownPlane, square_at, inside_from, visible_error, visible_total}
use Rattle.visible_error.specs.VisibleNeeds.{shown_blocks, Showable}
use Rattle.visible_error.specs.VisibleLaws.{x_in, y_in}

-- macroblock k's squared distance from the padded source, as the writer states it
abbrev pub padded_error : ShownPlane → ℕ → ℕ
padded_error s k = sse (target_of s.width s.height s.source k) (part 16 (blocks_along s.width) k s.recon.samples)

-- the squared distance at column x of row y, the source's last column and row repeated
unfoldable padded_at : ShownPlane → ℕ → ℕ → ℕ
padded_at s x y =
    let d = gap (get_or s.source (min y (s.height - 1) * s.width + min x (s.width - 1)) 0) (get_or s.recon.samples (y * s.recon.stride + x) 0) in
    d * d

-- ---- a side of n samples, in runs of sixteen
runs : (f : ℕ → ℕ) (n b : ℕ) → sum (λ m. sum (λ i. f (16 * m + i)) (inside_from n (16 * m))) b ≡ sum f (min n (16 * b))
unfolding sum
runs f n zero = let e : min n (16 * 0) ≡ 0 = omega arith in rw e
runs f n (suc b) = ap (λ (x : ℕ). x + sum (λ i. f (16 * b + i)) (inside_from n (16 * b))) (runs f n b) ∙ go (dec_le n (16 * b))
  where
    go : Dec (n ≤ 16 * b) → sum f (min n (16 * b)) + sum (λ i. f (16 * b + i)) (inside_from n (16 * b)) ≡ sum f (min n (16 * suc b))
    go (yes l) =
        let none : inside_from n (16 * b) ≡ 0 = omega arith in
        let all : min n (16 * suc b) ≡ min n (16 * b) = omega arith in
        rw (none, all) (add-zero _)
    go (no l) =
        let before : min n (16 * b) ≡ 16 * b = omega arith in
        let all : min n (16 * suc b) ≡ 16 * b + inside_from n (16 * b) = omega arith in
        rw (before, all) (sym (sum_add f (16 * b) (inside_from n (16 * b))))

side : (f : ℕ → ℕ) (n : ℕ) → sum (λ m. sum (λ i. f (16 * m + i)) (inside_from n (16 * m))) (blocks_along n) ≡ sum f n
side f n = let e : min n (16 * blocks_along n) ≡ n = omega arith in runs f n (blocks_along n) ∙ ap (sum f) e

-- the first terms of a sum
first_terms : (f : ℕ → ℕ) (m n : ℕ) → m ≤ n → sum f m ≤ sum f n
first_terms f m n h = let e : m + (n - m) ≡ n = omega arith in rw e at (sum_le f m (n - m))

module _ (s : ShownPlane) where
  -- macroblock m of row q, from its samples
  block_at : (q m : ℕ) → m < blocks_along s.width
      → visible_error s (q * blocks_along s.width + m) ≡ sum (λ j. sum (λ i. square_at s (16 * m + i) (16 * q + j)) (inside_from s.width (16 * m))) (inside_from s.height (16 * q))
  unfolding visible_error
  block_at q m h = rw (digits_div q h, digits_mod q h)

  -- a plane's visible error is the sum over its width × height samples, each once
  pub all_samples : visible_total s ≡ sum (λ y. sum (λ x. square_at s x y) s.width) s.height
  unfolding visible_total
  all_samples =
      let w = s.width in
      sum_rows_lem (visible_error s) (blocks_along s.height) (blocks_along w)
      ∙ sum_same _ (λ q. sum (λ j. sum (λ x. square_at s x (16 * q + j)) w) (inside_from s.height (16 * q))) (blocks_along s.height) (λ q hq.
      sum_same _ (λ m. sum (λ j. sum (λ i. square_at s (16 * m + i) (16 * q + j)) (inside_from w (16 * m))) (inside_from s.height (16 * q))) (blocks_along w) (λ m hm. block_at q m hm)
      ∙ sum_swap (λ m j. sum (λ i. square_at s (16 * m + i) (16 * q + j)) (inside_from w (16 * m))) (blocks_along w) (inside_from s.height (16 * q))
      ∙ sum_same _ _ (inside_from s.height (16 * q)) (λ j hj. side (λ x. square_at s x (16 * q + j)) w))
      ∙ side (λ y. sum (λ x. square_at s x y) w) s.height

  module _ (ok : Showable s) (k : ℕ) (h : k < shown_blocks s) where
    -- where macroblock k begins
    abbrev left : ℕ
    left = 16 * (k % blocks_along s.width)

    abbrev top : ℕ
    top = 16 * (k / blocks_along s.width)

    wide : 0 < blocks_along s.width
    wide = omega (arith, ok.fits.width.some)

    -- the sum over its first c columns and r rows
    abbrev corner : (ℕ → ℕ → ℕ) → ℕ → ℕ → ℕ
    corner f c r = sum (λ j. sum (λ i. f (left + i) (top + j)) c) r

    -- ---- the padded one, sample by sample
    sample : (j i : ℕ) → j < 16 → i < 16
        → square_of (padded_source s.width s.height s.source) s.recon.samples (entry_of 16 (blocks_along s.width) k (j * 16 + i)) ≡ padded_at s (left + i) (top + j)
    unfolding padded_at
    sample j i hj hi =
        let row : k / blocks_along s.width * 16 + (j * 16 + i) / 16 ≡ top + j = omega arith in
        let col : k % blocks_along s.width * 16 + (j * 16 + i) % 16 ≡ left + i = omega arith in
        let x : left + i < padded16 s.width = omega (arith, mod-lt k wide) in
        let y : top + j < padded16 s.height = omega (arith, (div-lt_iff_lt-mul wide).1 h) in
        rw (row, col, ok.fits.stride, padded_at_lem s.width s.height s.source (left + i) (top + j) x y)

    padded_is : padded_error s k ≡ corner (padded_at s) 16 16
    unfolding target_of
    padded_is =
        sse-part 16 (blocks_along s.width) (omega arith) wide (padded_source s.width s.height s.source) s.recon.samples k
        ∙ sum_rows_lem _ 16 16
        ∙ sum_same _ _ 16 (λ j hj. sum_same _ _ 16 (λ i hi. sample j i hj hi))

    -- ---- inside the picture nothing is repeated
    inside : (x y : ℕ) → x < s.width → y < s.height → square_at s x y ≡ padded_at s x y
    unfolding padded_at square_at
    inside x y hx hy =
        let col : min x (s.width - 1) ≡ x = omega arith in
        let row : min y (s.height - 1) ≡ y = omega arith in
        rw (row, col)

    visible_is : visible_error s k ≡ corner (padded_at s) (inside_from s.width left) (inside_from s.height top)
    unfolding visible_error
    visible_is = sum_same _ _ (inside_from s.height top) (λ j hj. sum_same _ _ (inside_from s.width left) (λ i hi. inside (left + i) (top + j) (omega arith) (omega arith)))

    -- a macroblock's visible error is never above its padded one
    pub never_above : visible_error s k ≤ padded_error s k
    never_above =
        let c = inside_from s.width left in
        let r = inside_from s.height top in
        rw (visible_is, padded_is) (le_trans (sum_each_le _ _ r (λ j l. first_terms _ c 16 (omega arith))) (first_terms _ r 16 (omega arith)))

    -- of a plane of whole macroblocks it is the same
    pub whole : s.width % 16 ≡ 0 → s.height % 16 ≡ 0 → visible_error s k ≡ padded_error s k
    whole w v =
        let c : inside_from s.width left ≡ 16 = omega (arith, x_in s ok k h) in
        let r : inside_from s.height top ≡ 16 = omega (arith, y_in s ok k h) in
        visible_is ∙ ap₂ (corner (padded_at s)) c r ∙ sym padded_is
