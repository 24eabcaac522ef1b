-- The sum so far and the sum of the rest make the whole; 256 samples keep it at 65,280.
use native.Mathlib.Omega.{arith}
use mathlib.Core.Path.{◌≡◌}
use lib.ListN.{length}
use lib.Seq.{drop-length}
use Rattle.leaf.specs.LeafForms.{sample_sum}
use Rattle.leaf_samples.specs.RaisedLaws.{total-step}
use borrow.Author.Rules.{rules}
use Rattle.leaf_search.proofs.svq1_enc_leaf.inner.sum_of.Goals as goal

pub loop-i-preserved : goal.loop-i-preserved
loop-i-preserved c =
    let l = c.loop-i in
    let a = c.args in
    omega (arith, total-step a.t.now l.i (search rules))

pub returns : goal.returns
unfolding sample_sum
returns c =
    let l = c.loop-i in
    let e : l.i ≡ length c.args.t.now = omega arith in
    omega (arith, rw (e, drop-length) at l.invariant.2)
