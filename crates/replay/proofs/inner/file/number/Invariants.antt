use mathlib.Core.Path.{◌≡◌}
use Prim.Native.Nat.{◌≤◌}
use lib.ListN.{length, drop}
use Rattle.replay.specs.Layout.{little}
use Rattle.replay.proofs.inner.file.number.Given as goal

abbrev pub invariant-loop-i : goal.invariant-loop-i
invariant-loop-i l = (l.i ≤ length l.t) × (length l.t ≤ 8) × (l.n ≡ little (drop l.i l.t))
