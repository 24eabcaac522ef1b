-- The sum of the differences is the difference of the two sums.
use Rattle.leaf_samples.specs.RaisedLaws.{residual_sums}
use Rattle.leaf_search.proofs.svq1_enc_leaf.inner.residual_mean.Goals as goal

pub returns : goal.returns
returns c =
    let s = c in record {
      result_value = rw (residual_sums s.args.t.now s.args.p.now s.requires.2, ← c.sum_of-2.ensures.value, ← c.sum_of.ensures.value)
          c.mean_of_sums.ensures.result_value;
      upper_bound = c.mean_of_sums.ensures.upper_bound;
    }
