use mathlib.Core.Path.{◌≡◌}
use lib.ListN.{length, take}
use Rattle.code_tables.specs.RangeForms.{range_ends}
use Rattle.code_tables.proofs.inner.range_ends.Given as goal

abbrev pub invariant-loop-i : goal.invariant-loop-i
invariant-loop-i l = (length l.out ≡ length l.initial.out) × (take l.i l.out ≡ take l.i (range_ends l.e l.table))
