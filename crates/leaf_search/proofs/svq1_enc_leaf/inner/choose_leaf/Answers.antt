-- One leaf: skip where it is open and no worse, else the coded one. Assumes nothing.
use mathlib.Core.Path.{refl, sym, ◌∙◌}
use native.Mathlib.Omega.{arith}
use Rattle.bits.specs.FillLaws.{sets_all}
use Rattle.leaf_search.specs.InnerLaws.{skip_wins, skip_loses, skip_closed}
use Rattle.leaf_search.proofs.svq1_enc_leaf.inner.choose_leaf.Goals as goal

pub returns-then-e-coded : goal.returns-then-e-coded
returns-then-e-coded c =
    let a = c.args in
    let s = c.search_coded-coded in
    skip_wins a.terms a.t.now a.p.now a.book.now a.base s.result.code s.result.stages s.result.error _ s.ensures _ _ c.distance_of-e.result
    c.if-terms.true c.distance_of-e.ensures (omega (arith, c.if-e-coded.true)) (c.put_row.ensures ∙ sets_all _ _ (s.auto.out ∙ c.requires.shown ∙ sym c.requires.predictor)) refl

pub returns-else-e-coded : goal.returns-else-e-coded
returns-else-e-coded c =
    let a = c.args in
    let s = c.search_coded-coded in
    skip_loses a.terms a.t.now a.p.now a.book.now a.base s.result.code s.result.stages s.result.error _ s.ensures c.distance_of-e.result
    c.if-terms.true c.distance_of-e.ensures (omega (arith, c.if-e-coded.false))

pub returns-else-terms : goal.returns-else-terms
returns-else-terms c =
    let a = c.args in
    let s = c.search_coded-coded in
    skip_closed a.terms a.t.now a.p.now a.book.now a.base s.result.code s.result.stages s.result.error _ s.ensures c.if-terms.false
