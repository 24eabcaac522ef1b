-- Rows moved. Assumes nothing.
use mathlib.Core.Path.{◌∙◌}
use Rattle.tree_samples.specs.RowFormsLaws.{gather_moves, moved-gather}
use Rattle.tree_samples.proofs.svq1_enc_tree.inner.gather_block.Goals as goal

pub move_rows-requires : goal.move_rows-requires
move_rows-requires c = gather_moves _ _ _ _ _ _ c.requires

pub returns : goal.returns
returns c = c.move_rows.ensures ∙ moved-gather _ _ _ _ _ _ c.requires
