-- One row after the other. Assumes nothing.
use Rattle.std.proofs.Common.{refl}
use Rattle.macroblock_search.specs.TargetFormsLaws.{filled_row, filled_all}
use Rattle.macroblock_search.proofs.svq1_enc.inner.block.Goals as goal

pub loop-i-preserved : goal.loop-i-preserved
loop-i-preserved c =
    let a = c.args in
    let l = c.loop-i in
    filled_row a.canvas.width a.canvas.height a.source.now a.k c.requires.0 l.i _ _ _ _ _ _ c.loop-i-test.true c.blocks_along-cols.ensures refl refl c.min-row.ensures l.invariant c.target_row.ensures

pub returns : goal.returns
returns c = filled_all _ _ _ _ c.requires.0 _ _ c.loop-i-test.false c.loop-i.invariant
