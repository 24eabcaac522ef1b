-- The first i elements of the run are there.
use Rattle.bits.specs.FillLaws.{row_step}
use Rattle.bits.proofs.inner.put_row.Goals as goal

pub loop-i-preserved : goal.loop-i-preserved
loop-i-preserved c = rw c.loop-i.invariant (row_step c.args.out.now c.args.xs.now c.args.at c.loop-i.i c.loop-i-test.true)
