use mathlib.Core.Path.{◌≡◌}
use lib.ListN.{length}
use lib.Seq.{sets}
use Rattle.house.specs.House.{house_from}
use Rattle.house_rules.proofs.work_out_house_book.Given as goal

abbrev pub invariant-loop-e : goal.invariant-loop-e
invariant-loop-e l = (length l.out ≡ length l.initial.out) × (l.out ≡ sets l.initial.out 0 (house_from l.e 0))
