-- A leaf by the book's two tables for it. Assumes nothing.
use Rattle.tree.specs.WalkReadLaws.{leaf_here, leaf_refused}
use Rattle.leaf.specs.LentNeedsLaws.{book_tables}
use Rattle.book.specs.BookLaws.{good_book}
use borrow.Author.Rules.{rules}
use Rattle.book.specs.Level.{level_number}
use Rattle.tree.proofs.svq1_enc_tree.inner.walk.read_leaf_at.Goals as goal

pub stage_table-stage-requires : goal.stage_table-stage-requires
stage_table-stage-requires c = (good_book _ c.requires.passes).size

pub mean_table-means-requires : goal.mean_table-means-requires
mean_table-means-requires c = (good_book _ c.requires.passes).size

pub read_leaf-requires : goal.read_leaf-requires
read_leaf-requires c =
    let s = c in
    (s.requires.from, rw (c.stage_table-stage.ensures, c.mean_table-means.ensures) (book_tables s.args.book.now s.requires.passes s.args.half (level_number s.args.level) s.requires.deep))

pub returns-in_err-leaf : goal.returns-in_err-leaf
returns-in_err-leaf c =
    let a = c.args in
    let e = leaf_refused a.book.now a.half (level_number a.level) _ _ a.s.now a.at _ c.stage_table-stage.ensures c.mean_table-means.ensures (rw c.number.ensures.0 at c.in_err-leaf.ensures) in
    search (rules, e)

pub returns : goal.returns
returns c =
    let a = c.args in
    leaf_here a.book.now a.half (level_number a.level) _ _ a.s.now a.at _ c.stage_table-stage.ensures c.mean_table-means.ensures (rw c.number.ensures.0 at c.in_ok-leaf.ensures)
