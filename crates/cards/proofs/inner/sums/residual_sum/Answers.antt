-- The difference of the sums. Assumes nothing.
use mathlib.Core.Path.{sym}
use native.Mathlib.Omega.{arith}
use Rattle.leaf_samples.specs.RaisedLaws.{residual_sums}
use Rattle.cards.specs.NumbersLaws.{less}
use Rattle.cards.proofs.inner.sums.residual_sum.Goals as goal

pub overflow_sub-result : goal.overflow_sub-result
overflow_sub-result c = (less c.sum_of.result c.sum_of-2.result (omega arith) (omega arith)).whole

pub returns : goal.returns
returns c =
    let a = c.args in
    let d = (less c.sum_of.result c.sum_of-2.result (omega arith) (omega arith)).same in
    rw (d, c.sum_of.ensures.value, c.sum_of-2.ensures.value) (sym (residual_sums a.target.now a.predictor.now (omega arith)))
