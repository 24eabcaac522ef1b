-- By a book's two tables. Assumes nothing.
use Rattle.book.specs.Level.{level_number}
use Rattle.leaf.specs.LeafForms.{leaf_of}
use Rattle.book.specs.LevelLaws.{level_most}
use mathlib.Core.Path.{◌∙◌, ap}
use lib.ListN.{length}
use Rattle.book.specs.BookLaws.{good_book}
use Rattle.leaf.specs.LentNeedsLaws.{book_bits_lem, book_tables}
use Rattle.leaf.proofs.svq1_enc_leaf.inner.book_leaf_bits.Goals as goal

pub stage_table-stage-requires : goal.stage_table-stage-requires
stage_table-stage-requires c = (good_book _ c.requires.0).size

pub mean_table-requires : goal.mean_table-requires
mean_table-requires c = (good_book _ c.requires.0).size

pub leaf_bits-requires : goal.leaf_bits-requires
leaf_bits-requires c =
    let s = c in
    let d = level_number s.args.level in
    rw (c.stage_table-stage.ensures, c.mean_table.ensures) (book_tables s.args.book.now s.requires.0 s.args.half d (level_most s.args.level), s.requires.1)

pub returns : goal.returns
returns c =
    let s = c in
    let d = level_number s.args.level in
    λ js six. (rw (c.stage_table-stage.ensures, c.mean_table.ensures) at (c.leaf_bits.ensures js six)) ∙ ap length (book_bits_lem s.args.book.now s.args.half d (leaf_of s.args.code js))
