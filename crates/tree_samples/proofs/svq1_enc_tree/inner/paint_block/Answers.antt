-- Rows moved. Assumes nothing.
use mathlib.Core.Path.{◌∙◌}
use Rattle.tree_samples.specs.RowFormsLaws.{paint_moves, moved-paint}
use Rattle.tree_samples.proofs.svq1_enc_tree.inner.paint_block.Goals as goal

pub move_rows-requires : goal.move_rows-requires
move_rows-requires c = paint_moves _ _ _ _ _ _ c.requires

pub returns : goal.returns
returns c = c.move_rows.ensures ∙ moved-paint _ _ _ _ 0 _ _
