-- What the plan answers, field by field. Assumes nothing.
use mathlib.Core.Path.{◌∙◌}
use mathlib.Core.Bool.{not}
use lib.Dec.{eqb}
use Rattle.leaf.specs.LeafCall.{BlockIn, block_by}
use Rattle.call_entries.specs.PlanLaws.{plan_refused, plan_made_lem}
use Rattle.call_entries.proofs.plan_part.parts_plan_macroblock.Goals as goal

pub returns-in-Ok : goal.returns-in-Ok
returns-in-Ok c =
    let a = c.args in
    let b : BlockIn = block_by a.book.now a.codebook.now a.level a.half a.target.now a.predictor.now a.cap (not (eqb a.skip 0)) a.margin in
    c.made_part.ensures.0 ∙ plan_made_lem b a.lambda c.in-Ok.p c.in-Ok.ensures c.made_part.ensures.1

pub returns-in-Err : goal.returns-in-Err
returns-in-Err c =
    let a = c.args in
    let b : BlockIn = block_by a.book.now a.codebook.now a.level a.half a.target.now a.predictor.now a.cap (not (eqb a.skip 0)) a.margin in
    c.refused_part.ensures ∙ rw c.number.ensures (plan_refused b a.lambda c.in-Err.refusal c.in-Err.ensures)
