-- Laws of the public calls' refusals: what holds where none is met, and what is answered.
use Rattle.std.specs.Prelude.{ℕ, ◌+◌, ◌-◌, ◌*◌, ◌^◌, ◌≤◌, ◌<◌, ◌≡◌, refl, Bool, true, false, ◌&&◌, List, ◌∷◌, leb, length, Option, Some, None, is_some, Result, Ok, Err}
use Rattle.std.specs.Option.{option_or}
use Rattle.std.specs.Result.{result_err}
use Rattle.std.proofs.Common.{sym, true≢false, arith, eq-eqb, ne_eqb, leb-true, le-leb}
use Rattle.bits.specs.Basics.{unless, or_else, first_of}
use Rattle.bits.specs.BasicsLaws.{both_true, or_none, unless-none, first_met}
use Rattle.bits.specs.Bits.{bits_of, put_bits}
use Rattle.bits.specs.BitNeeds.{Fits}
use Rattle.bits.specs.declared.refusal.Refusal.{Refusal}
use Rattle.bits.specs.declared.refusal.Refusal.TheVariants as refusal
use Rattle.bits.specs.Refusals.{Answer, done, refused, number_of, number_told, refused_by}
use Rattle.bits.specs.Calls.{unless_refused, start_refusal, room_refusal, bits_refusal, Put}

-- ---- no refusal
pub start_passes : (bytes at : ℕ) → start_refusal bytes at ≡ 0 → Fits bytes at 0
start_passes bytes at e =
    let two = both_true (leb bytes (2 ^ 28)) (leb at (8 * bytes)) (unless-none (leb bytes (2 ^ 28) && leb at (8 * bytes)) 21 (omega arith) e) in
    let h = leb-true at (8 * bytes) two.1 in
    record { bytes_fit = leb-true bytes (2 ^ 28) two.0; bits_fit = omega arith }

pub room_passes : (bytes at w short : ℕ) → 0 < short → room_refusal bytes at w short ≡ 0 → Fits bytes at w
unfolding room_refusal
room_passes bytes at w short p e =
    let two = or_none (start_refusal bytes at) (unless (leb w (8 * bytes - at)) short) e in
    let s = start_passes bytes at two.0 in
    let h = leb-true w (8 * bytes - at) (unless-none (leb w (8 * bytes - at)) short p two.1) in
    record { bytes_fit = s.bytes_fit; bits_fit = omega arith }

pub bits_passes : (bytes at w short : ℕ) → 0 < short → bits_refusal bytes at w short ≡ 0 → (w ≤ 32) × Fits bytes at w
unfolding bits_refusal
bits_passes bytes at w short p e =
    let two = or_none (unless (leb w 32) 6) (room_refusal bytes at w short) e in
    (leb-true w 32 (unless-none (leb w 32) 6 (omega arith) two.0), room_passes bytes at w short p two.1)

-- ---- the tests, one behind the other
pub start_is : (bytes at : ℕ) → bytes ≤ 2 ^ 28 → at ≤ 8 * bytes → start_refusal bytes at ≡ 0
start_is bytes at h k = rw (le-leb bytes (2 ^ 28) h, le-leb at (8 * bytes) k)

pub start_refused : (bytes at : ℕ) → (start_refusal bytes at ≡ 0 → ⊥) → start_refusal bytes at ≡ 21
start_refused bytes at h = go (leb bytes (2 ^ 28) && leb at (8 * bytes)) h
  where
    go : (b : Bool) → (unless b 21 ≡ 0 → ⊥) → unless b 21 ≡ 21
    go true k = absurd (k refl)
    go false k = refl

-- ---- what is answered
-- a refusal that is met is no 0
pub number_met : (r : Refusal) → 0 < number_of r
number_met refusal.PlaneSize = omega arith
number_met refusal.SourceLength = omega arith
number_met refusal.CanvasSize = omega arith
number_met refusal.ReferenceLength = omega arith
number_met refusal.TableLength = omega arith
number_met refusal.CodeWidth = omega arith
number_met refusal.NotPrefixFree = omega arith
number_met refusal.Block = omega arith
number_met refusal.SearchBlock = omega arith
number_met refusal.NoCode = omega arith
number_met refusal.LeafClosed = omega arith
number_met refusal.ResultLength = omega arith
number_met refusal.StartBit = omega arith
number_met refusal.NoRoom = omega arith
number_met refusal.NoVector = omega arith
number_met refusal.BitsEnd = omega arith
number_met refusal.FileOrder = omega arith
number_met refusal.Allowance = omega arith

-- where a call meets a refusal, its number is no 0
pub refusal_met : (r : Refusal) (n : ℕ) → number_of r ≡ n → n ≡ 0 → ⊥
refusal_met r n e z = omega (arith, number_met r)

-- a refusal that may be: whether it is there tells whether its number is 0
pub told_none : (o : Option Refusal) → is_some o ≡ false → number_told o ≡ 0
told_none (Some r) h = absurd (true≢false h)
told_none None h = refl

pub told_some : (o : Option Refusal) → is_some o ≡ true → number_told o ≡ 0 → ⊥
told_some (Some r) h e = refusal_met r (number_of r) refl e
told_some None h e = true≢false (sym h)

-- the first of two, and what a call's answer tells
pub told_or : (a b : Option Refusal) → number_told (option_or a b) ≡ or_else (number_told a) (number_told b)
told_or (Some r) b = rw (ne_eqb (number_of r) 0 (refusal_met r (number_of r) refl))
told_or None b = refl

pub told_err : {A : Type 0} (r : Result A Refusal) → number_told (result_err r) ≡ refused_by r
told_err (Ok a) = refl
told_err (Err r) = refl

-- the first refusal of a chain is met; or it is not, and the rest of the chain is answered
pub met_first : (r : Refusal) (n m : ℕ) → number_of r ≡ n → number_of r ≡ or_else n m
met_first r n m e = rw (← e, ne_eqb (number_of r) 0 (refusal_met r (number_of r) refl))

pub met_behind : (n m k : ℕ) → 0 ≡ n → k ≡ m → k ≡ or_else n m
met_behind n m k e h = rw (← e) h

pub link_met : (r : Refusal) (n : ℕ) (ns : List ℕ) → number_of r ≡ n → number_of r ≡ first_of (n ∷ ns)
link_met r n ns e = first_met (number_of r) n ns e (refusal_met r (number_of r) refl)

pub answer_refused : {A : Type 0} (n m : ℕ) (a : Answer A) → m ≡ n → (m ≡ 0 → ⊥) → refused m ≡ unless_refused n a
answer_refused n m a e h = rw (← e, ne_eqb m 0 h)

pub answer_met : {A : Type 0} (r : Refusal) (n : ℕ) (a : Answer A) → number_of r ≡ n → refused (number_of r) ≡ unless_refused n a
answer_met r n a e = answer_refused n (number_of r) a e (refusal_met r (number_of r) refl)

pub answer_given : {A : Type 0} (n : ℕ) (a : Answer A) → n ≡ 0 → unless_refused n a ≡ a
answer_given n a e = rw (eq-eqb n 0 e)

pub put_refused : (n : ℕ) (r : Refusal) (out : List ℕ) (at : ℕ) (xs : List ℕ) → number_of r ≡ n → Put n out at xs (Err r) out
put_refused n r out at xs e =
    record { answer = answer_met r n (done (at + length xs)) e; bits = rw (← e, ne_eqb (number_of r) 0 (refusal_met r (number_of r) refl)); untouched = λ _. refl }

pub put_done : (n : ℕ) (out : List ℕ) (at : ℕ) (xs left : List ℕ) (next : ℕ) → n ≡ 0 → next ≡ at + length xs → bits_of left ≡ put_bits (bits_of out) at xs
    → Put n out at xs (Ok next) left
put_done n out at xs left next e h b = record { answer = rw (eq-eqb n 0 e, h); bits = rw (eq-eqb n 0 e) b; untouched = λ no. absurd (no e) }
