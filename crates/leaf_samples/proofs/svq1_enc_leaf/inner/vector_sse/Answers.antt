-- The squared distance from the sums with the vector added, in two 16-bit totals (`Totals`). Assumes nothing.
use native.Mathlib.Omega.{arith}
use Rattle.leaf_samples.specs.RaisedLaws.{vector_at_lem}
use Rattle.leaf_samples.specs.TotalsLaws.{one_more, all_summed}
use borrow.Author.Rules.{rules}
use Rattle.leaf_samples.proofs.svq1_enc_leaf.inner.vector_sse.Goals as goal

pub overflow_add-a : goal.overflow_add-a
overflow_add-a c =
    let s = c in
    omega (arith, s.requires.3 c.loop-i.i)

pub loop-i-preserved : goal.loop-i-preserved
loop-i-preserved c =
    let l = c.loop-i in
    let s = c in
    let v = vector_at_lem s.args.a.now s.args.w.now s.args.bias l.i (search rules) (search rules) s.requires.4 in
    one_more l.invariant c.error_at-e.result (search rules) v.0 (rw (v.1, ← c.wide.ensures.0) c.error_at-e.ensures.value) c.error_at-e.ensures.upper_bound

pub returns : goal.returns
returns c = all_summed c.loop-i.invariant (search rules)
