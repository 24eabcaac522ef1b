use Rattle.leaf_samples.specs.ShowNeedsLaws.{Added}
use Rattle.leaf_samples.proofs.svq1_enc_leaf.inner.add_stages.Given as goal

abbrev pub invariant-loop-k : goal.invariant-loop-k
invariant-loop-k l = Added l.initial.a l.book l.base l.count l.stages l.a l.at l.k
