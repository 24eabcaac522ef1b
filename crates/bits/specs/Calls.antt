-- What the public calls on bits answer and leave (document 01, refusals 6, 21, 22, 24).
use Rattle.std.specs.Prelude.{ℕ, Result, ◌+◌, ◌-◌, ◌*◌, ◌^◌, ◌≡◌, ◌&&◌, List, eqb, leb, length, take, drop}
use Rattle.bits.specs.Basics.{pick, or_else, unless}
use Rattle.bits.specs.Bits.{val_of, bits_of, put_bits}
use Rattle.bits.specs.declared.refusal.Refusal.{Refusal}
use Rattle.bits.specs.declared.svq1_vlc.BitsRead.{BitsRead}
use Rattle.bits.specs.Refusals.{Answer, done, refused, answer_of}

-- ---- answers
-- an answer, unless the number of a refusal is given, 0 being none
abbrev pub unless_refused : {A : Type 0} → ℕ → Answer A → Answer A
unless_refused n a = pick (eqb n 0) a (refused n)

-- ---- refusals, by the bytes of the bit string, the start bit and the width
-- 21: more than 2^28 bytes, or the start bit lies beyond them
abbrev pub start_refusal : ℕ → ℕ → ℕ
start_refusal bytes at = unless (leb bytes (2 ^ 28) && leb at (8 * bytes)) 21

-- else `short` where fewer than w bits are left: 22 in a writer, 24 in a reader
unfoldable pub room_refusal : ℕ → ℕ → ℕ → ℕ → ℕ
room_refusal bytes at w short = or_else (start_refusal bytes at) (unless (leb w (8 * bytes - at)) short)

-- 6 for a width above 32
unfoldable pub bits_refusal : ℕ → ℕ → ℕ → ℕ → ℕ
bits_refusal bytes at w short = or_else (unless (leb w 32) 6) (room_refusal bytes at w short)

-- ---- the calls
-- the bits xs put at bit `at` of `out`, unless refused: the answer is the bit behind them; `left` is what the slice holds at the end
pub record Put (refusal : ℕ) (out : List ℕ) (at : ℕ) (xs : List ℕ) (r : Result ℕ Refusal) (left : List ℕ) : Type 0 where
  pub answer : answer_of r ≡ unless_refused refusal (done (at + length xs))
  pub bits : bits_of left ≡ pick (eqb refusal 0) (put_bits (bits_of out) at xs) (bits_of out)
  pub untouched : (refusal ≡ 0 → ⊥) → left ≡ out

-- the number that the w bits from bit `at` on stand for
unfoldable pub bits_at : List ℕ → ℕ → ℕ → Answer BitsRead
bits_at s at w = unless_refused (bits_refusal (length s) at w 24) (done (record { value = val_of (take w (drop at (bits_of s))); next = at + w }))
