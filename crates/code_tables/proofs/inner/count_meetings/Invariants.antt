use Prim.Native.Nat.{◌+◌, ◌≤◌}
use mathlib.Core.Path.{◌≡◌}
use lib.ListN.{drop}
use Rattle.code_tables.specs.RangeForms.{meetings}
use Rattle.code_tables.proofs.inner.count_meetings.Given as goal

abbrev pub invariant-loop-k : goal.invariant-loop-k
invariant-loop-k l =
    (l.met ≤ l.k) × (l.met + meetings l.low l.high (drop l.k l.lows) (drop l.k l.highs) ≡ meetings l.low l.high l.lows l.highs)
