use Prim.Native.Nat.{◌-◌}
use Rattle.leaf.specs.Leaf.{plus, samples}
use Rattle.leaf.specs.LeafForms.{less}
use Rattle.leaf_samples.specs.TotalsLaws.{Totals}
use Rattle.leaf_samples.proofs.svq1_enc_leaf.inner.vector_sse.Given as goal

abbrev pub invariant-loop-i : goal.invariant-loop-i
invariant-loop-i l = Totals l.t (samples (plus (less (l.bias - 128) l.a) (less 128 l.w))) l.low l.high l.i
