-- A candidate that is not allowed on one of the axes changes nothing; the sum of any other replaces the best so far where it stays below it.
use Rattle.std.proofs.Common.{rules, sym, ◌∙◌}
use Rattle.motion.specs.CandidateForms.{Both}
use Rattle.motion.specs.CandidateFormsLaws.{not_x, not_y, replaced_is}
use Rattle.motion.proofs.svq1_enc_inter.inner.tried.Goals as goal

pub returns-then-not-axis_ok : goal.returns-then-not-axis_ok
returns-then-not-axis_ok c = (search (rules, not_x, not_y), c.requires.1)

pub returns : goal.returns
returns c =
    let a = c.args in
    let ok : Both a.p a.ux a.uy = record { x = sym c.axis_ok.ensures ∙ c.if-not-axis_ok.false; y = sym c.axis_ok-else-not-axis_ok.ensures ∙ c.if-not-axis_ok-2.false } in
    let e = c.vector_sum-s.ensures in
    replaced_is a.target.now a.reference.now a.p a.ux a.uy ok a.best _ e.0 e.1 _ c.requires.1 c.replaced.ensures
