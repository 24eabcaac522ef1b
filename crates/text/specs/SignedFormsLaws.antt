-- Laws of signed numbers as the code makes, reads and writes them. Assumes nothing.
use Rattle.std.specs.Prelude.{ℕ, zero, suc, ◌-◌, ◌≤◌, ◌<◌, ◌≡◌, true, false, ℤ, pos, negsuc, ◌-ℤ◌, nat_abs, length, drop, get_or, None, Some}
use Rattle.std.proofs.Math.Path.{refl}
use Rattle.std.proofs.Common.{sym, ap, true≢false, arith, SFits, to_z, of_z, eq-eqb, ne_eqb, leb-false, le-ltb}
use mathlib.Core.List.{List, [], ◌∷◌}
use Rattle.std.specs.Int.Signed.{le_z, nat_abs-le}
use Rattle.std.specs.Int.{w64}
use Rattle.std.proofs.lemmas.Int.{to_z-of_z}
use Rattle.text.specs.Text.{minus, number_up_to, above_zero, below_zero, signed_in, decimal, signed_decimal}

-- ---- a number of 64 bits without its sign
-- one that is not below 0 is its size
pub above_is : (z : ℤ) → le_z (pos 0) z ≡ true → z ≡ pos (nat_abs z)
above_is (pos n) e = refl
above_is (negsuc n) e = absurd (true≢false (sym e))

less_is : (z : ℤ) → le_z (pos 0) z ≡ false → (negsuc 0 -ℤ z ≡ pos (nat_abs z - 1)) × (1 ≤ nat_abs z)
less_is (pos n) e = absurd (omega (arith, leb-false 0 n e))
less_is (negsuc n) e = (simp (le-ltb (suc n) 1 (omega arith)) (ap pos (omega arith)), omega arith)

-- -1 less one below 0 is one less than its size
pub record MinusOneLess (z : ℤ) : Type 0 where
  pub whole : SFits w64 (negsuc 0 -ℤ to_z w64 (of_z w64 z))
  pub less : to_z w64 (of_z w64 (negsuc 0 -ℤ to_z w64 (of_z w64 z))) ≡ pos (nat_abs z - 1)
  pub not_zero : 1 ≤ nat_abs z
  pub most : nat_abs z ≤ 9223372036854775808

pub minus_one_less : (z : ℤ) → SFits w64 z → le_z (pos 0) (to_z w64 (of_z w64 z)) ≡ false → MinusOneLess z
minus_one_less z f t =
    let e = to_z-of_z w64 z f in
    let l = less_is z (simp e at t) in
    let m : nat_abs z ≤ 9223372036854775808 = nat_abs-le z f.sfits in
    let w : SFits w64 (pos (nat_abs z - 1)) = record { sfits = omega (arith, l.1) } in
    record { whole = rw (e, l.0) w; less = rw (e, l.0) (to_z-of_z w64 (pos (nat_abs z - 1)) w); not_zero = l.1; most = m }

-- ---- a number below 0 by its size: -1 less one less than that
below_is : (n : ℕ) → negsuc 0 -ℤ pos n ≡ negsuc n
below_is zero = refl
below_is (suc n) = ap negsuc (omega arith)

pub record MadeBelow (n : ℕ) : Type 0 where
  pub fits : SFits w64 (pos (n - 1))
  pub whole : SFits w64 (negsuc 0 -ℤ to_z w64 (n - 1))
  pub same : Some (to_z w64 (of_z w64 (negsuc 0 -ℤ to_z w64 (n - 1)))) ≡ below_zero (Some n)

pub made_below : (n : ℕ) → 0 < n → n ≤ 9223372036854775808 → MadeBelow n
made_below zero k h = absurd (omega arith)
made_below (suc n) k h =
    let f : SFits w64 (pos n) = record { sfits = omega arith } in
    let g : SFits w64 (negsuc n) = record { sfits = omega arith } in
    let e : negsuc 0 -ℤ to_z w64 n ≡ negsuc n = rw (to_z-of_z w64 (pos n) f) (below_is n) in
    let one : suc n - 1 ≡ n = omega arith in
    record { fits = rw one f; whole = rw (one, e) g; same = rw (one, e) (ap Some (to_z-of_z w64 (negsuc n) g)) }

-- ---- reading
module _ (least most : ℕ) where
  pub signed_empty : (t : List ℕ) → length t ≡ 0 → signed_in least most t ≡ None
  unfolding signed_in
  signed_empty [] h = refl
  signed_empty (c ∷ t) h = absurd (omega arith)

  pub signed_minus : (t : List ℕ) → 0 < length t → get_or t 0 0 ≡ minus → signed_in least most t ≡ below_zero (number_up_to least (drop 1 t))
  unfolding signed_in
  signed_minus [] h e = absurd (omega arith)
  signed_minus (c ∷ t) h e = rw (eq-eqb c minus e)

  pub signed_plain : (t : List ℕ) → 0 < length t → (get_or t 0 0 ≡ minus → ⊥) → signed_in least most t ≡ above_zero (number_up_to most t)
  unfolding signed_in
  signed_plain [] h n = absurd (omega arith)
  signed_plain (c ∷ t) h n = rw (ne_eqb c minus n)

-- ---- writing
pub signed_above : (z : ℤ) → le_z (pos 0) z ≡ true → signed_decimal z ≡ decimal (nat_abs z)
unfolding signed_decimal
signed_above (pos n) e = refl
signed_above (negsuc n) e = absurd (true≢false (sym e))

pub signed_below : (z : ℤ) → le_z (pos 0) z ≡ false → signed_decimal z ≡ minus ∷ decimal (nat_abs z)
unfolding signed_decimal
signed_below (pos n) e = absurd (omega (arith, leb-false 0 n e))
signed_below (negsuc n) e = refl
