use mathlib.Core.Path.{◌≡◌}
use lib.ListN.{drop}
use Rattle.code_tables.specs.RangeForms.{ranges_apart}
use Rattle.code_tables.proofs.inner.ranges_apart.Given as goal

abbrev pub invariant-loop-i : goal.invariant-loop-i
invariant-loop-i l = ranges_apart l.lows l.highs ≡ ranges_apart (drop l.i l.lows) (drop l.i l.highs)
