-- Refused, or summed. Assumes nothing.
use Rattle.std.proofs.Common.{rules, sym}
use Rattle.bits.specs.CallsLaws.{answer_met}
use Rattle.visible_error.specs.Visible.{visible_answer}
use Rattle.visible_error.specs.VisibleNeeds.{shown_by}
use Rattle.visible_error.specs.VisibleLaws.{passes, answer_shown}
use Rattle.visible_error.proofs.visible_error.Goals as goal

pub returns-in_err-check_source : goal.returns-in_err-check_source
unfolding visible_answer
returns-in_err-check_source c = search (rules, answer_met, c.in_err-check_source.ensures)

pub visible_total-requires : goal.visible_total-requires
visible_total-requires c = let a = c.args in passes (shown_by a.canvas a.source.now a.recon.now) (sym c.in_ok-check_source.ensures)

pub returns : goal.returns
returns c =
    let a = c.args in
    answer_shown (shown_by a.canvas a.source.now a.recon.now) _ (sym c.in_ok-check_source.ensures) c.visible_total.ensures
