-- Laws of rows read inside the canvas: there the clamp does nothing; a row by its parts; where a row ends.
-- Assumes nothing.
use Rattle.std.specs.Prelude.{ℕ, ◌+◌, ◌*◌, ◌/◌, ◌%◌, ◌<◌, ◌≤◌, ◌≡◌, Bool, List, pos, length, get_or}
use Rattle.std.proofs.Math.Path.{refl}
use Rattle.std.proofs.Common.{ap, ◌∙◌, mul-le-mul_right, add-mul, zero-mul, one-mul, mul_comm}
use Rattle.std.proofs.Math.Bool.{true, false}
use native.Mathlib.Omega.{arith}
use Rattle.std.proofs.Math.Decide.{dec_lt}
use Rattle.std.proofs.Math.Dec.{eqb}
use borrow.Author.Tests.{lt-ltb, eq-eqb, ne_eqb, eqb-false}
use Rattle.canvas.specs.Canvas.{Canvas}
use Rattle.compensation.specs.Compensation.{sample_at, half_sample}
use Rattle.compensation.specs.RowForms.{against, against_two, against_four, cell, cells, ReadIn}
use Rattle.bits.specs.FillLaws.{run_of, run_at}
use Rattle.bits.specs.SumLaws.{sum_same}

-- ---- inside the canvas
sample_in : (c : Canvas) (x y : ℕ) → x < c.stride → y < c.rows → sample_at c (pos x) (pos y) ≡ get_or c.samples (y * c.stride + x) 0
unfolding sample_at
sample_in c x y h k = simp (lt-ltb _ _ h, lt-ltb _ _ k)

next_row : (y stride x : ℕ) → (y + 1) * stride + x ≡ y * stride + x + stride
next_row y stride x = let e : (y + 1) * stride ≡ y * stride + stride = simp (add-mul, one-mul) in omega arith

-- the half-sample place 2 x + ox, 2 y + oy, all of whose samples lie in the canvas
module _ (c : Canvas) (x y ox oy : ℕ) (bx : ox < 2) (by : oy < 2) (hx : x + ox < c.stride) (hy : y + oy < c.rows) where
  qx : (2 * x + ox) / 2 ≡ x
  qx = omega arith

  qy : (2 * y + oy) / 2 ≡ y
  qy = omega arith

  mx : (2 * x + ox) % 2 ≡ ox
  mx = omega arith

  my : (2 * y + oy) % 2 ≡ oy
  my = omega arith

  here : sample_at c (pos x) (pos y) ≡ get_or c.samples (y * c.stride + x) 0
  here = sample_in c x y (omega arith) (omega arith)

  right : x + 1 < c.stride → sample_at c (pos (x + 1)) (pos y) ≡ get_or c.samples (y * c.stride + x + 1) 0
  right h = sample_in c (x + 1) y h (omega arith) ∙ ap (λ (k : ℕ). get_or c.samples k 0) (omega arith)

  below : y + 1 < c.rows → sample_at c (pos x) (pos (y + 1)) ≡ get_or c.samples (y * c.stride + x + c.stride) 0
  below h = sample_in c x (y + 1) (omega arith) h ∙ ap (λ (k : ℕ). get_or c.samples k 0) (next_row y c.stride x)

  across : x + 1 < c.stride → y + 1 < c.rows → sample_at c (pos (x + 1)) (pos (y + 1)) ≡ get_or c.samples (y * c.stride + x + c.stride + 1) 0
  across h k =
      let e = next_row y c.stride x in
      let f : (y + 1) * c.stride + (x + 1) ≡ (y + 1) * c.stride + x + 1 = omega arith in
      let g : (y + 1) * c.stride + (x + 1) ≡ y * c.stride + x + c.stride + 1 = omega arith in
      sample_in c (x + 1) (y + 1) h k ∙ ap (λ (k : ℕ). get_or c.samples k 0) g

  pub half_in : half_sample c (pos (2 * x + ox)) (pos (2 * y + oy)) ≡ cell c ox oy (y * c.stride + x)
  unfolding half_sample cell
  half_in = go (eqb ox 0) (eqb oy 0) refl refl
    where
      go : (s t : Bool) → eqb ox 0 ≡ s → eqb oy 0 ≡ t → half_sample c (pos (2 * x + ox)) (pos (2 * y + oy)) ≡ cell c ox oy (y * c.stride + x)
      go true true e f = simp (mx, my, qx, qy, e, f) here
      go true false e f =
          let z : oy ≡ 0 → ⊥ = eqb-false oy 0 f in
          let k : y + 1 < c.rows = omega arith in
          simp (mx, my, qx, qy, e, f) (simp (here, below k))
      go false true e f =
          let z : ox ≡ 0 → ⊥ = eqb-false ox 0 e in
          let h : x + 1 < c.stride = omega arith in
          simp (mx, my, qx, qy, e, f) (simp (here, right h))
      go false false e f =
          let z : ox ≡ 0 → ⊥ = eqb-false ox 0 e in
          let w : oy ≡ 0 → ⊥ = eqb-false oy 0 f in
          let h : x + 1 < c.stride = omega arith in
          let k : y + 1 < c.rows = omega arith in
          simp (mx, my, qx, qy, e, f) (simp (here, right h, below k, across h k))

-- ---- where a row of n samples ends, with its neighbours
pub row_fits : (x0 y0 i stride rows n ox oy : ℕ) → x0 + ox + n ≤ stride → y0 + oy + n ≤ rows → i < n
    → (y0 + i) * stride + x0 + oy * stride + ox + n ≤ stride * rows
row_fits x0 y0 i stride rows n ox oy h k q =
    let m : (y0 + i + oy + 1) * stride ≤ rows * stride = mul-le-mul_right stride (omega arith) in
    let e : (y0 + i + oy + 1) * stride ≡ (y0 + i) * stride + oy * stride + stride = simp (add-mul, one-mul) in
    omega (arith, mul_comm stride rows)

pub target_fits : (n i : ℕ) → i < n → n * i + n ≤ n * n
target_fits n i h =
    let m : (i + 1) * n ≤ n * n = mul-le-mul_right n (omega arith) in
    let e : (i + 1) * n ≡ i * n + n = simp (add-mul, one-mul) in
    omega (arith, mul_comm n i)

pub one_of : (o s : ℕ) → (o ≡ 0 → ⊥) → o < 2 → o * s ≡ s
one_of o s h k = let e : o ≡ 1 = omega arith in rw e (one-mul s)

-- ---- a row at a full sample, between columns, between rows, and between both
module _ (t : List ℕ) (c : Canvas) (n ox oy ti p : ℕ) where
  pub row_full : ox ≡ 0 → oy ≡ 0 → against (run_of t ti n) (run_of c.samples p n) n ≡ cells t c n ox oy ti p
  unfolding cell
  row_full e f = sum_same _ _ n (λ k h. simp (eq-eqb ox 0 e, eq-eqb oy 0 f, run_at t ti n k h, run_at c.samples p n k h))

  pub row_two : ox < 2 → oy < 2 → ox + oy ≡ 1
      → against_two (run_of t ti n) (run_of c.samples p n) (run_of c.samples (p + oy * c.stride + ox) n) n ≡ cells t c n ox oy ti p
  unfolding cell
  row_two bx by one = go (dec_lt ox 1)
    where
      go : Dec (ox < 1) → against_two (run_of t ti n) (run_of c.samples p n) (run_of c.samples (p + oy * c.stride + ox) n) n ≡ cells t c n ox oy ti p
      go (yes l) =
          let x : ox ≡ 0 = omega arith in
          let z : oy * c.stride ≡ c.stride = one_of oy c.stride (λ e. omega arith) by in
          sum_same _ _ n (λ k h.
          let q : p + oy * c.stride + ox + k ≡ p + k + c.stride = omega arith in
          simp (eq-eqb ox 0 x, ne_eqb oy 0 (λ e. omega arith), run_at t ti n k h, run_at c.samples p n k h, run_at c.samples (p + oy * c.stride + ox) n k h, q))
      go (no l) =
          let y : oy ≡ 0 = omega arith in
          let z : oy * c.stride ≡ 0 = rw y (zero-mul c.stride) in
          sum_same _ _ n (λ k h.
          let q : p + oy * c.stride + ox + k ≡ p + k + 1 = omega arith in
          simp (ne_eqb ox 0 (λ e. omega arith), eq-eqb oy 0 y, run_at t ti n k h, run_at c.samples p n k h, run_at c.samples (p + oy * c.stride + ox) n k h, q))

  pub row_four : ox ≡ 1 → oy ≡ 1
      → against_four (run_of t ti n) (run_of c.samples p n) (run_of c.samples (p + ox) n) (run_of c.samples (p + oy * c.stride) n) (run_of c.samples (p + oy * c.stride + ox) n) n
      ≡ cells t c n ox oy ti p
  unfolding cell
  row_four x y =
      sum_same _ _ n (λ k h.
      let z : oy * c.stride ≡ c.stride = rw y (one-mul c.stride) in
      let r : p + ox + k ≡ p + k + 1 = omega arith in
      let q : p + oy * c.stride + k ≡ p + k + c.stride = omega arith in
      let s : p + oy * c.stride + ox + k ≡ p + k + c.stride + 1 = omega arith in
      simp (ne_eqb ox 0 (λ e. omega arith), ne_eqb oy 0 (λ e. omega arith), run_at t ti n k h, run_at c.samples p n k h, run_at c.samples (p + ox) n k h, run_at c.samples (p + oy * c.stride) n k h, run_at c.samples (p + oy * c.stride + ox) n k h, q, r, s))

-- ---- row i of a block that is read inside the canvas
pub record RowIn (t : List ℕ) (c : Canvas) (n ox oy x0 y0 i : ℕ) : Type 0 where
  pub target : n * i + n ≤ length t
  pub canvas : (y0 + i) * c.stride + x0 + oy * c.stride + ox + n ≤ length c.samples

pub row_in : (t : List ℕ) (c : Canvas) (n ox oy x0 y0 i : ℕ) → ReadIn t c n ox oy x0 y0 → i < n → RowIn t c n ox oy x0 y0 i
row_in t c n ox oy x0 y0 i r h =
    record {
      target = rw r.target_len (target_fits n i h);
      canvas = rw r.canvas_len (row_fits x0 y0 i c.stride c.rows n ox oy r.x_in r.y_in h);
    }
