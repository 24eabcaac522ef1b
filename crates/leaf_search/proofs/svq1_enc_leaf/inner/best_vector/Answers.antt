-- The index is the definition's first least place of the vectors seen so far; a strictly lower error moves it.
use native.Mathlib.Omega.{arith}
use mathlib.Core.Path.{◌≡◌, refl, sym, ◌∙◌, ap}
use Prim.Native.Nat.{◌≤◌, ◌<◌}
use Rattle.leaf.specs.Leaf.{argmin}
use Rattle.leaf.specs.LeafForms.{less, vector_error}
use Rattle.leaf_samples.specs.RaisedLaws.{argmin-take, argmin_keep}
use borrow.Author.Rules.{rules}
use Rattle.leaf_search.proofs.svq1_enc_leaf.inner.best_vector.Goals as goal
use Rattle.leaf_search.proofs.svq1_enc_leaf.inner.best_vector.Goals.{then-e-error, else-e-error}

pub loop-j-init : goal.loop-j-init
unfolding argmin
loop-j-init c = (search rules, search rules, refl, c.vector_error-error.ensures, search rules)

pub loop-j-preserved : goal.loop-j-preserved
loop-j-preserved c =
    let l = c.loop-j in
    let a = c.args in
    let f = vector_error a.t.now (less a.bias a.a.now) a.book.now a.base in
    let e = c.vector_error-e.ensures in
    elim c.if-e-error.branch [
      | then-e-error w ↦
          let h : f l.j < f l.index = omega arith in (
            search rules,
            search rules,
            w.index-is ∙ argmin-take f l.j l.index l.invariant.0 l.invariant.2 h,
            w.error-is ∙ e ∙ ap f (sym w.index-is),
            omega arith,
          )
      | else-e-error w ↦
          let h : f l.index ≤ f l.j = omega arith in (
            search rules,
            search rules,
            w.index-is ∙ argmin_keep f l.j l.index l.invariant.0 l.invariant.2 h,
            w.error-is ∙ l.invariant.3 ∙ ap f (sym w.index-is),
            omega arith,
          )
    ]

pub returns : goal.returns
returns c =
    let l = c.loop-j in
    let e : l.j ≡ 16 = omega arith in
    record {
      index_value = rw e at l.invariant.2;
      error_value = l.invariant.3;
      index_bound = omega arith;
    }
