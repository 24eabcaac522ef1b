-- A leaf by the book's two tables for it. Assumes nothing.
use Rattle.tree.specs.WalkNeedsLaws.{leaf_lent, leaf_wrote}
use Rattle.book.specs.BookLaws.{good_book}
use Rattle.book.specs.Level.{level_number}
use Rattle.tree.proofs.svq1_enc_tree.inner.walk.put_leaf_at.Goals as goal

pub stage_table-stage-requires : goal.stage_table-stage-requires
stage_table-stage-requires c = (good_book _ c.requires.passes).size

pub mean_table-means-requires : goal.mean_table-means-requires
mean_table-means-requires c = (good_book _ c.requires.passes).size

pub put_leaf-requires : goal.put_leaf-requires
put_leaf-requires c =
    let a = c.args in
    leaf_lent a.book.now a.half (level_number a.level) _ _ c.stage_table-stage.ensures c.mean_table-means.ensures _ _ _ _ c.requires

pub returns : goal.returns
returns c =
    let a = c.args in
    leaf_wrote a.book.now a.half (level_number a.level) _ _ c.stage_table-stage.ensures c.mean_table-means.ensures _ c.put_leaf.ensures
