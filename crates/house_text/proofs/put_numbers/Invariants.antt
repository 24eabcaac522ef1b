use mathlib.Core.Path.{◌≡◌}
use lib.ListN.{length, take}
use Rattle.text.specs.WritingForms.{PutInRoom}
use Rattle.house_text.specs.HouseText.{number_lines}
use Rattle.house_text.proofs.put_numbers.Given as goal

abbrev pub invariant-loop-b : goal.invariant-loop-b
invariant-loop-b l =
    (length l.out ≡ length l.initial.out) × PutInRoom l.initial.out l.at (number_lines (take l.b-index l.codebook)) l.next l.out
