-- Where all columns lie in the source no minimum is taken. Assumes nothing.
use Rattle.std.proofs.Common.{◌∙◌}
use Rattle.macroblock_search.specs.TargetFormsLaws.{row_inside}
use Rattle.macroblock_search.proofs.svq1_enc.inner.target_row.Goals as goal

pub returns-then-x-last : goal.returns-then-x-last
returns-then-x-last c =
    let a = c.args in
    c.copy_row.ensures ∙ row_inside a.source.now a.out.now a.o a.p a.x a.last c.if-x-last.true
