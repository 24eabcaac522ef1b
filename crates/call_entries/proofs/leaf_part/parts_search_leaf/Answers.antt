-- What the search answers, field by field. Assumes nothing.
use mathlib.Core.Path.{◌∙◌}
use mathlib.Core.Bool.{not}
use lib.Dec.{eqb}
use Rattle.leaf.specs.LeafCall.{BlockIn, block_by}
use Rattle.call_entries.specs.LeafLaws.{part_refused, part_found}
use Rattle.call_entries.proofs.leaf_part.parts_search_leaf.Goals as goal

pub returns-in-Ok : goal.returns-in-Ok
returns-in-Ok c =
    let a = c.args in
    let b : BlockIn = block_by a.book.now a.codebook.now a.level a.half a.target.now a.predictor.now a.cap (not (eqb a.skip 0)) a.margin in
    c.found_part.ensures.0 ∙ part_found b c.in-Ok.f c.in-Ok.ensures c.found_part.ensures.1

pub returns-in-Err : goal.returns-in-Err
returns-in-Err c =
    let a = c.args in
    let b : BlockIn = block_by a.book.now a.codebook.now a.level a.half a.target.now a.predictor.now a.cap (not (eqb a.skip 0)) a.margin in
    c.refused_part.ensures ∙ rw c.number.ensures (part_refused b c.in-Err.refusal c.in-Err.ensures)
