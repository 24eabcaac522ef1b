-- Laws of the comparisons: a macroblock more, and a macroblock that differs.
-- Assumes nothing.
use Rattle.std.specs.Prelude.{◌≡◌, Bool, true, false, ◌&&◌, List, eqb, get_or, Option, Some, None, is_some, not}
use Rattle.std.proofs.Math.Path.{refl}
use Rattle.std.proofs.Common.{sym, subst, arith, add-one, true≢false}
use Prim.Native.Nat.{ℕ, zero, suc, ◌+◌, ◌*◌, ◌<◌}
use Rattle.std.proofs.Math.Decide.{ℕ_discrete}
use borrow.Author.Tests.{eq-eqb, ne_eqb}
use Rattle.bits.specs.Basics.{pick}
use Rattle.bits.specs.Refusals.{number_of, number_told}
use Rattle.bits.specs.CallsLaws.{refusal_met}
use Rattle.bits.specs.declared.refusal.Refusal.{Refusal}
use Rattle.replay.specs.Layout.{part_in, number_in}
use Rattle.replay.specs.Compare.{same_step, same_steps, modes_in}

both_on : (a b : Bool) → a ≡ true → b ≡ true → (a && b) ≡ true
both_on a b e f = rw (e, f)

off_first : (a b : Bool) → a ≡ false → (a && b) ≡ false
off_first a b e = rw e

off_second : (a b : Bool) → b ≡ false → (a && b) ≡ false
off_second true b e = e
off_second false b e = refl

module _ (t s : List ℕ) where
  pub steps_none : true ≡ same_steps t s 0
  unfolding same_steps
  steps_none = refl

  pub steps_more : (k : ℕ) → true ≡ same_steps t s k → true ≡ same_step t s k → true ≡ same_steps t s (k + 1)
  unfolding same_steps
  steps_more k a b = rw (add-one k) (sym (both_on (same_steps t s k) (same_step t s k) (sym a) (sym b)))

  differ_here : (k n : ℕ) → k < suc n → false ≡ same_step t s k → (k < n → false ≡ same_steps t s n) → Dec (k ≡ n) → false ≡ (same_steps t s n && same_step t s n)
  differ_here k n h e before (yes q) = sym (off_second (same_steps t s n) (same_step t s n) (sym (subst (λ (m : ℕ). false ≡ same_step t s m) q e)))
  differ_here k n h e before (no q) = sym (off_first (same_steps t s n) (same_step t s n) (sym (before (omega arith))))

  pub steps_differ : (k n : ℕ) → k < n → false ≡ same_step t s k → false ≡ same_steps t s n
  unfolding same_steps
  steps_differ k zero h e = absurd (omega arith)
  steps_differ k (suc n) h e = differ_here k n h e (λ l. steps_differ k n l e) (ℕ_discrete k n)

module _ (s : List ℕ) (mode : ℕ) where
  pub modes_none : 0 ≡ modes_in s mode 0
  unfolding modes_in
  modes_none = refl

  pub modes_more : (k c x : ℕ) → c ≡ modes_in s mode k → x ≡ pick (eqb (get_or s (3 * k) 0) mode) 1 0 → c + x ≡ modes_in s mode (k + 1)
  unfolding modes_in
  modes_more k c x e f = rw (add-one k, e, f)

module _ (t s : List ℕ) (k a b c x y z : ℕ) (mode : a ≡ number_in (part_in t (7 * k) 1)) (told-mode : x ≡ get_or s (3 * k) 0) where
  pub mode_differs : (a ≡ x → ⊥) → false ≡ same_step t s k
  unfolding same_step
  mode_differs n = rw (← mode, ← told-mode, ne_eqb a x n)

  module _ (same-mode : a ≡ x) (bits : b ≡ number_in (part_in t (7 * k + 1) 2)) (told-bits : y ≡ get_or s (3 * k + 1) 0) where
    pub bits_differ : (b ≡ y → ⊥) → false ≡ same_step t s k
    unfolding same_step
    bits_differ n = rw (← mode, ← told-mode, eq-eqb a x same-mode, ← bits, ← told-bits, ne_eqb b y n)

    pub error_decides : b ≡ y → c ≡ number_in (part_in t (7 * k + 3) 4) → z ≡ get_or s (3 * k + 2) 0 → eqb c z ≡ same_step t s k
    unfolding same_step
    error_decides e error told-error = rw (← mode, ← told-mode, eq-eqb a x same-mode, ← bits, ← told-bits, eq-eqb b y e, error, told-error)

-- there is no refusal exactly where its number is 0
pub none_told : (o : Option Refusal) (b : Bool) → is_some o ≡ not b → b ≡ eqb (number_told o) 0
none_told (Some r) true e = absurd (true≢false e)
none_told (Some r) false e = sym (ne_eqb (number_of r) 0 (refusal_met r (number_of r) refl))
none_told None true e = refl
none_told None false e = absurd (true≢false (sym e))
