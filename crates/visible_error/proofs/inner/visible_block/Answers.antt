-- Where the macroblock begins, and how much of it is visible. Assumes nothing.
use Rattle.visible_error.specs.Visible.{visible_error}
use Rattle.visible_error.proofs.inner.visible_block.Goals as goal

pub returns : goal.returns
unfolding visible_error
returns c = (rw (c.cut-n.ensures, c.cut-m.ensures, c.blocks_along-cols.ensures) at c.rows_error.ensures.0, c.rows_error.ensures.1)
