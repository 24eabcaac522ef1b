-- Laws of compensation as the code does it: clamped reads over raised numbers, and a macroblock made of its parts.
-- Assumes nothing.
use Rattle.std.specs.Prelude.{ℕ, zero, suc, ◌+◌, ◌-◌, ◌*◌, ◌/◌, ◌%◌, ◌<◌, ◌≤◌, ◌≡◌, List, eqb, ℤ, pos, negsuc, ◌+ℤ◌, length, get_or}
use Rattle.std.proofs.Common.{sym, ap, ap₂, ◌∙◌, arith, mul-le-mul, mul-le-mul_right, add-mul, one-mul, mul_comm, mul-zero, mul-pos, zero-add, lt-ltb, le-ltb, eq-eqb, ne_eqb}
use Rattle.std.proofs.Math.Decide.{dec_le, ℕ_discrete}
use Rattle.std.specs.Int.Signed.{mag}
use Rattle.bits.specs.Basics.{pick, values_from}
use Rattle.bits.specs.BasicsLaws.{length_values, value_at}
use Rattle.vectors.specs.declared.svq1_motion_predictor.Svq1Mv.{Svq1Mv}
use Rattle.canvas.specs.Canvas.{Canvas}
use Rattle.compensation.specs.Compensation.{even, clamp_to, sample_at, mean2, mean4, half_sample, moved_sample}
use Rattle.mv_cache.specs.Grid.{entry_of}
use Rattle.mv_cache.specs.GridLaws.{HoldsBlocks, in_owner}
use Rattle.mv_cache.specs.PutLaws.{put_to, put_all, Steps, entry_steps}
use Rattle.bits.specs.DifferenceLaws.{pos_sub, sub_half, sub_one}
use Rattle.compensation.specs.MovedForms.{moved_part, Parts, down, down_half, down_mv, Lifted}

-- ---- clamped reads
pub clamp_low : (n size : ℕ) → n < 2147483648 → 0 ≡ clamp_to size (down_half n)
clamp_low n size h = simp (lt-ltb n 2147483648 h)

pub clamp_in : (n size : ℕ) → 2147483648 ≤ n → n - 2147483648 < size → n - 2147483648 ≡ clamp_to size (down_half n)
clamp_in n size h k = simp (le-ltb n 2147483648 h, lt-ltb _ _ k)

pub clamp_high : (n size : ℕ) → 2147483648 ≤ n → size ≤ n - 2147483648 → size - 1 ≡ clamp_to size (down_half n)
clamp_high n size h k = simp (le-ltb n 2147483648 h, le-ltb _ _ k)

pub place_in : (cx cy stride rows : ℕ) → cx < stride → cy < rows → cy * stride + cx < stride * rows
place_in cx cy stride rows hx hy =
    let m : (cy + 1) * stride ≤ rows * stride = mul-le-mul_right stride (omega arith) in
    let e : (cy + 1) * stride ≡ cy * stride + stride = simp (add-mul, one-mul) in
    omega (arith, mul_comm stride rows)

even_is : (u : ℕ) → even (down u) ≡ eqb (u % 2) 0
even_is u = go (dec_le 4294967296 u)
  where
    flip : (a : ℕ) → u % 2 ≡ (a + 1) % 2 → eqb (a % 2) 1 ≡ eqb (u % 2) 0
    flip a e = by (ℕ_discrete (u % 2) 0)
      where
        by : Dec (u % 2 ≡ 0) → eqb (a % 2) 1 ≡ eqb (u % 2) 0
        by (yes h) = eq-eqb (a % 2) 1 (omega arith) ∙ sym (eq-eqb (u % 2) 0 h)
        by (no h) = ne_eqb (a % 2) 1 (λ q. omega arith) ∙ sym (ne_eqb (u % 2) 0 h)

    go : Dec (4294967296 ≤ u) → even (down u) ≡ eqb (u % 2) 0
    go (yes h) = let m : (u - 4294967296) % 2 ≡ u % 2 = omega arith in simp (le-ltb _ _ h, m)
    go (no h) = let k : u < 4294967296 = omega arith in simp (lt-ltb _ _ k) (flip (4294967296 - suc u) (omega arith))

-- the half sample by the code's cases
module _ (c : Canvas) (hx hy : ℕ) where
  abbrev at : ℕ → ℕ → ℕ
  at x y = sample_at c (down_half x) (down_half y)

  pub half_is : half_sample c (down hx) (down hy)
      ≡ pick (eqb (hx % 2) 0)
      (pick (eqb (hy % 2) 0) (at (hx / 2) (hy / 2)) (mean2 (at (hx / 2) (hy / 2)) (at (hx / 2) (hy / 2 + 1))))
      (pick (eqb (hy % 2) 0) (mean2 (at (hx / 2) (hy / 2)) (at (hx / 2 + 1) (hy / 2)))
      (mean4 (at (hx / 2) (hy / 2)) (at (hx / 2 + 1) (hy / 2)) (at (hx / 2) (hy / 2 + 1)) (at (hx / 2 + 1) (hy / 2 + 1))))
  unfolding half_sample
  half_is = simp (even_is hx, even_is hy, sub_half hx 2147483648, sub_half hy 2147483648, sub_one (hx / 2) 2147483648, sub_one (hy / 2) 2147483648)

-- a moved sample is the half sample at the raised place
pub moved_is : (c : Canvas) (x y ux uy i : ℕ) → half_sample c (down (2 * (x + i % 16) + ux)) (down (2 * (y + i / 16) + uy)) ≡ moved_sample c 16 x y (down_mv ux uy) i
moved_is c x y ux uy i = ap₂ (half_sample c) (sym (pos_sub (2 * (x + i % 16)) ux 4294967296)) (sym (pos_sub (2 * (y + i / 16)) uy 4294967296))

-- a component of 32 bits
abbrev pub lift_of : ℤ → ℕ
lift_of (pos n) = 4294967296 + n
lift_of (negsuc n) = 4294967295 - n

pub lifted : (z : ℤ) → mag z < 2147483648 → Lifted z (lift_of z)
lifted (pos n) h =
    record { same = simp (le-ltb (4294967296 + n) 4294967296 (omega arith)) (ap pos (omega arith)); most = omega arith }
lifted (negsuc n) h =
    record { same = simp (lt-ltb (4294967295 - n) 4294967296 (omega arith)) (ap negsuc (omega arith)); most = omega arith }

pub lift_sum : (z : ℤ) → mag z < 2147483648 → z +ℤ pos 4294967296 ≡ pos (lift_of z)
lift_sum (pos n) h = ap pos (omega arith)
lift_sum (negsuc n) h = simp (le-ltb 4294967296 (suc n) (omega arith)) (ap pos (omega arith))

-- ---- parts
module _ (s cols q : ℕ) (p : Parts s cols q) where
  pub side_some : 0 < s
  side_some = omega (arith, p.sides.some)

  pub cols_some : 0 < cols
  cols_some = by cols p.across
    where
      by : (n : ℕ) → s * n ≡ 16 → 0 < n
      by zero e = absurd (omega (arith, mul-zero s))
      by (suc n) e = omega arith

  -- its entries lie among the 256
  pub holds_part : (xs : List ℕ) → length xs ≡ 256 → HoldsBlocks s cols (suc q) xs
  holds_part xs e j l =
      let h : j < cols * s * (s * cols) = in_owner s cols side_some cols_some cols j (omega (arith, p.inside)) in
      let w : cols * s ≡ 16 = mul_comm cols s ∙ p.across in
      omega (arith, rw (w, p.across) at h)

  -- and so do the numbers that their places are computed by
  pub part_steps : (j : ℕ) → j < s * s → Steps s cols q j 256
  part_steps j l =
      let xs : List ℕ = values_from (λ (k : ℕ). k) 256 0 in
      let e : length xs ≡ 256 = length_values (λ (k : ℕ). k) 256 0 in
      rw e at (entry_steps s cols side_some cols_some q j xs (holds_part xs e) l)

  pub part_corner : (q / cols * s < 256) × (q % cols * s < 256)
  part_corner = let t = part_steps 0 (mul-pos side_some side_some) in (omega (arith, t.row), omega (arith, t.col))

  pub square_most : s * s ≤ 256
  square_most = mul-le-mul p.sides.most p.sides.most

-- one sample of a part, and all of them
module _ (c : Canvas) (x y : ℕ) (v : Svq1Mv) (s cols q : ℕ) where
  abbrev pub part_values : List ℕ
  part_values = values_from (λ j. moved_sample c 16 x y v (entry_of s cols q j)) (s * s) 0

  pub part_value : (j : ℕ) → j < s * s → moved_sample c 16 x y v (entry_of s cols q j) ≡ get_or part_values j 0
  part_value j h = sym (value_at (λ j. moved_sample c 16 x y v (entry_of s cols q j)) (s * s) 0 j 0 h ∙ ap (λ (k : ℕ). moved_sample c 16 x y v (entry_of s cols q k)) (zero-add j))

  pub part_done : (xs : List ℕ) → Parts s cols q → put_to s cols q part_values (s * s) xs ≡ moved_part c x y v s cols q xs
  unfolding moved_part
  part_done xs p = put_all s cols (side_some s cols q p) (cols_some s cols q p) q part_values xs
