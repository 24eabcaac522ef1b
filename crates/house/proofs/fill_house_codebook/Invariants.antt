use mathlib.Core.Path.{◌≡◌}
use lib.ListN.{length, take}
use Rattle.house.specs.House.{house_codebook}
use Rattle.house.proofs.fill_house_codebook.Given as goal

abbrev pub invariant-loop-i : goal.invariant-loop-i
invariant-loop-i l = (length l.out ≡ length l.initial.out) × (take l.i l.out ≡ take l.i house_codebook)
