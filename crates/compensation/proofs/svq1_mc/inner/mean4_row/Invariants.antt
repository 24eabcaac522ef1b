use mathlib.Core.Path.{◌≡◌}
use Prim.Native.Nat.{◌+◌}
use lib.ListN.{get_or}
use Rattle.compensation.specs.Compensation.{mean4}
use Rattle.mv_cache.specs.Grid.{row_set}
use Rattle.compensation.proofs.svq1_mc.inner.mean4_row.Given as goal

abbrev pub invariant-loop-i : goal.invariant-loop-i
invariant-loop-i l = l.out ≡ row_set l.o (λ k. mean4 (get_or l.reference (l.a + k) 0) (get_or l.reference (l.a + 1 + k) 0) (get_or l.reference (l.b + k) 0) (get_or l.reference (l.b + 1 + k) 0)) l.i l.initial.out
