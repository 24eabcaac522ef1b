use mathlib.Core.Path.{◌≡◌}
use mathlib.Core.List.{◌++◌}
use Prim.Native.Nat.{◌≤◌}
use lib.ListN.{length, take, drop}
use Rattle.leaf_samples.specs.RaisedLaws.{raised}
use Rattle.leaf_samples.proofs.svq1_enc_leaf.inner.seed.Given as goal

abbrev pub invariant-loop-i : goal.invariant-loop-i
invariant-loop-i l =
    (l.i ≤ length l.a) × (length l.a ≡ length l.initial.a) × (take l.i l.a ++ raised l.mean (drop l.i l.p) ≡ raised l.mean l.p)
