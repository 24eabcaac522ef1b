-- Text put into a lent slice, and forms of the definitions of Text that writing digit after digit follows (document 01, "Refused for the state met", the listing;
-- document 02, §2, refusal 20; §3, signed numbers).
use Rattle.std.specs.Prelude.{ℕ, zero, suc, ◌+◌, ◌/◌, ◌%◌, ◌≤◌, ◌≡◌, Bool, List, [], ◌∷◌, ◌++◌, eqb, leb, ℤ, Result, Ok, Err, length, take, drop}
use Rattle.bits.specs.Basics.{pick, unless}
use Rattle.bits.specs.declared.refusal.Refusal.{Refusal}
use Rattle.bits.specs.Refusals.{Answer, done, answer_of}
use Rattle.bits.specs.Calls.{unless_refused}
use Rattle.text.specs.Text.{digits_before, decimal, signed_decimal}

-- a text put at a place: the bytes before it and behind it stay
unfoldable pub put_text : List ℕ → ℕ → List ℕ → List ℕ
put_text bytes at t = take at bytes ++ (t ++ drop (at + length t) bytes)

-- there is room for a text
abbrev pub room_for : List ℕ → ℕ → List ℕ → Bool
room_for bytes at t = leb (at + length t) (length bytes)

-- what writing a text promises: the place behind it and every byte; with no room, the place itself and no byte changed
pub record TextPut (bytes : List ℕ) (at : ℕ) (t : List ℕ) (r : ℕ) (after : List ℕ) : Type 0 where
  pub next : r ≡ pick (room_for bytes at t) (at + length t) at
  pub bytes_after : after ≡ pick (room_for bytes at t) (put_text bytes at t) bytes

-- what is promised of texts written one behind the other: where there is room for all of them, the place behind them and every byte
pub record PutInRoom (bytes : List ℕ) (at : ℕ) (t : List ℕ) (r : ℕ) (after : List ℕ) : Type 0 where
  pub next : at + length t ≤ length bytes → r ≡ at + length t
  pub bytes_after : at + length t ≤ length bytes → after ≡ put_text bytes at t

-- ---- a call that writes a text to the front of a lent slice
-- 20: the slice is shorter than the text
abbrev pub text_refusal : List ℕ → ℕ → ℕ
text_refusal t room = unless (leb (length t) room) 20

-- the refusal, or how far it wrote
abbrev pub text_answer : ℕ → List ℕ → Answer ℕ
text_answer refusal t = unless_refused refusal (done (length t))

-- how far that is, nothing where it is refused
abbrev pub bytes_written : Result ℕ Refusal → ℕ
bytes_written (Ok n) = n
bytes_written (Err e) = 0

-- r is the answer, and every byte of the slice: the text and behind it what was there, or where the call is refused all as it was
pub record TextWritten (refusal : ℕ) (t out : List ℕ) (r : Result ℕ Refusal) (after : List ℕ) : Type 0 where
  pub answer : answer_of r ≡ text_answer refusal t
  pub left : after ≡ pick (eqb refusal 0) (put_text out 0 t) out

-- ---- digits
-- how many digits n has, for n below 10^fuel
abbrev pub digit_count : ℕ → ℕ → ℕ
digit_count f n = length (digits_before f n [])

-- what counting the digits of a number promises
pub record DigitsCounted (n r : ℕ) : Type 0 where
  pub count : r ≡ length (decimal n)
  pub most : r ≤ 20

-- what counting the bytes of a signed number promises
pub record SignedCounted (z : ℤ) (r : ℕ) : Type 0 where
  pub count : r ≡ length (signed_decimal z)
  pub most : r ≤ 21

-- the last w digits of n before the text t
unfoldable pub last_digits : ℕ → ℕ → List ℕ → List ℕ
last_digits zero n t = t
last_digits (suc w) n t = last_digits w (n / 10) ((48 + n % 10) ∷ t)
