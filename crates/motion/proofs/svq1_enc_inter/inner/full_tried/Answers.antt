-- A candidate whose column is not allowed changes nothing; the sum of any other replaces the best so far where it stays below it.
use Rattle.std.proofs.Common.{sym, ◌∙◌}
use Rattle.motion.specs.CandidateForms.{Both}
use Rattle.motion.specs.CandidateFormsLaws.{not_x, full_sum_is, replaced_is}
use Rattle.motion.proofs.svq1_enc_inter.inner.full_tried.Goals as goal

pub returns-then-not-axis_ok : goal.returns-then-not-axis_ok
returns-then-not-axis_ok c =
    let a = c.args in
    (not_x a.target.now a.reference.now a.p a.ux a.uy _ (sym c.axis_ok.ensures ∙ c.if-not-axis_ok.true), c.requires.1)

pub returns : goal.returns
returns c =
    let a = c.args in
    let r = c.requires in
    let ok : Both a.p a.ux a.uy = record { x = sym c.axis_ok.ensures ∙ c.if-not-axis_ok.false; y = r.5 } in
    let q = c.sum_full-s.ensures in
    let e = full_sum_is a.target.now a.reference.now a.p a.ux a.uy ok r.0 r.3 r.4 a.best _ q in
    replaced_is a.target.now a.reference.now a.p a.ux a.uy ok a.best _ e q.small _ r.1 c.replaced.ensures
