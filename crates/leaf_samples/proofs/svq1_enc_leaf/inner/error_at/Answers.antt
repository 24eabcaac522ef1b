-- The square of the distance to the clamped sum. Assumes nothing.
use Rattle.leaf_samples.specs.RaisedLaws.{saturate-less}
use Rattle.leaf_samples.proofs.svq1_enc_leaf.inner.error_at.Goals as goal

pub returns : goal.returns
returns c = record {
  value = rw (saturate-less, ← c.shown.ensures) c.squared.ensures.0;
  upper_bound = c.squared.ensures.1;
}
