use mathlib.Core.Path.{◌≡◌}
use mathlib.Core.List.{◌++◌}
use Prim.Native.Nat.{◌≤◌}
use lib.ListN.{length, take, drop}
use Rattle.leaf.specs.LeafForms.{plus_n}
use Rattle.leaf_samples.proofs.svq1_enc_leaf.inner.add_vector.Given as goal

abbrev pub invariant-loop-i : goal.invariant-loop-i
invariant-loop-i l =
    (l.i ≤ length l.a) × (length l.a ≡ length l.initial.a) × (drop l.i l.a ≡ drop l.i l.initial.a) ×
    (take l.i l.a ++ plus_n (drop l.i l.a) (drop l.i l.w) ≡ plus_n l.initial.a l.w)
