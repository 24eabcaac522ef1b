-- The code of the book's mode table. Assumes nothing.
use Rattle.book.specs.BookLaws.{good_book}
use Rattle.macroblock_dec.proofs.svq1_plane.inner.codes.read_mb_mode.Goals as goal

pub mode_table-requires : goal.mode_table-requires
mode_table-requires c = (good_book _ c.requires.passes).size

pub read_position-requires : goal.read_position-requires
read_position-requires c =
    let g = (good_book c.args.book.now c.requires.passes).mode in
    rw c.mode_table.ensures (c.requires.from, g.good)
