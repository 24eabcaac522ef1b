-- 23 where the vector is not allowed on one of the axes, else its sum.
use Rattle.std.proofs.Common.{rules, sym, ◌∙◌}
use Rattle.motion.specs.CandidateForms.{Both}
use Rattle.motion.specs.CandidateFormsLaws.{no_x, no_y, is_allowed}
use Rattle.motion.specs.SumCallLaws.{sum_alone}
use Rattle.motion.proofs.svq1_enc_inter.summed.Goals as goal

pub returns-then-not-axis_ok : goal.returns-then-not-axis_ok
returns-then-not-axis_ok c = search (rules, no_x, no_y)

pub returns : goal.returns
returns c =
    let a = c.args in
    let ok : Both a.p a.ux a.uy = record { x = sym c.axis_ok.ensures ∙ c.if-not-axis_ok.false; y = sym c.axis_ok-else-not-axis_ok.ensures ∙ c.if-not-axis_ok-2.false } in
    sum_alone _ _ _ _ (is_allowed a.target.now a.reference.now a.p a.ux a.uy ok) c.vector_sum.ensures.0
