-- The numbers of refusals, and what a call answers by them.
use Rattle.std.specs.Prelude.{ℕ, Option, Some, None, Result, Ok, Err}
use Rattle.bits.specs.declared.refusal.Refusal.{Refusal}
use Rattle.bits.specs.declared.refusal.Refusal.TheVariants as refusal

-- the number of each
abbrev pub number_of : Refusal → ℕ
number_of refusal.PlaneSize = 1
number_of refusal.SourceLength = 2
number_of refusal.CanvasSize = 3
number_of refusal.ReferenceLength = 4
number_of refusal.TableLength = 5
number_of refusal.CodeWidth = 6
number_of refusal.NotPrefixFree = 7
number_of refusal.Block = 8
number_of refusal.SearchBlock = 9
number_of refusal.NoCode = 10
number_of refusal.LeafClosed = 11
number_of refusal.ResultLength = 20
number_of refusal.StartBit = 21
number_of refusal.NoRoom = 22
number_of refusal.NoVector = 23
number_of refusal.BitsEnd = 24
number_of refusal.FileOrder = 30
number_of refusal.Allowance = 31

-- the number of a refusal that may be, 0 being none
abbrev pub number_told : Option Refusal → ℕ
number_told (Some r) = number_of r
number_told None = 0

-- the number of what a call answers, likewise
abbrev pub refused_by : {A : Type 0} → Result A Refusal → ℕ
refused_by (Ok a) = 0
refused_by (Err r) = number_of r

-- what a call gives: its value, or the number of the refusal
pub data Answer (A : Type 0) : Type 0 where
  done : A → Answer A
  refused : ℕ → Answer A

abbrev pub answer_of : {A : Type 0} → Result A Refusal → Answer A
answer_of (Ok a) = done a
answer_of (Err r) = refused (number_of r)
