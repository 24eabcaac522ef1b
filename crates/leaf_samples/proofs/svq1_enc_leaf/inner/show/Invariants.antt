use mathlib.Core.Path.{◌≡◌}
use Prim.Native.Nat.{◌≤◌}
use lib.ListN.{length, take}
use Rattle.leaf.specs.Leaf.{samples}
use Rattle.leaf.specs.LeafForms.{less}
use Rattle.leaf_samples.proofs.svq1_enc_leaf.inner.show.Given as goal

abbrev pub invariant-loop-i : goal.invariant-loop-i
invariant-loop-i l = (l.i ≤ length l.out) × (length l.out ≡ length l.initial.out) × (take l.i l.out ≡ take l.i (samples (less l.bias l.a)))
