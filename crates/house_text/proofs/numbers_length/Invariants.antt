use Prim.Native.Nat.{◌*◌, ◌≤◌}
use mathlib.Core.Path.{◌≡◌}
use lib.ListN.{length, take}
use Rattle.house_text.specs.HouseText.{number_lines}
use Rattle.house_text.proofs.numbers_length.Given as goal

abbrev pub invariant-loop-b : goal.invariant-loop-b
invariant-loop-b l = (l.n ≤ 22 * l.b-index) × (l.n ≡ length (number_lines (take l.b-index l.codebook)))
