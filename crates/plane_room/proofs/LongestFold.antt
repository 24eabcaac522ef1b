-- A table's longest code as the largest of its entries' lengths. Assumes nothing.
use Rattle.std.specs.Prelude.{ℕ, zero, suc, ◌+◌, ◌*◌, ◌/◌, max, ◌≡◌, List, length, drop}
use Rattle.std.proofs.Common.{arith, ◌∙◌}
use Rattle.std.specs.List.{fold, range_with_len}
use Rattle.code_tables.specs.Codes.{code_len}
use Rattle.plane_room.specs.Room.{longest}
use Rattle.plane_room.specs.LongestLaws.{longest-step, longest_end}

-- the largest of `a` and the lengths from entry i on
from_entry : (t : List ℕ) (n i a : ℕ) → i + n ≡ length t / 3 → fold (λ a x. max a (code_len t x)) a (range_with_len i n) ≡ max a (longest (drop (3 * i) t))
from_entry t zero i a e = omega (arith, longest_end t i (omega arith))
from_entry t (suc n) i a e = from_entry t n (i + 1) (max a (code_len t i)) (omega arith) ∙ omega (arith, longest-step t i (omega arith))

pub all_longest : (t : List ℕ) → fold (λ a x. max a (code_len t x)) 0 (range_with_len 0 (length t / 3)) ≡ longest t
all_longest t = from_entry t (length t / 3) 0 0 (omega arith) ∙ omega arith
