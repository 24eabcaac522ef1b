-- The mode's code by its position. Assumes nothing.
use Rattle.book.specs.BookLaws.{good_book}
use Rattle.book.specs.Book.{mode_table}
use Rattle.macroblock.specs.Mode.{mode_position}
use Rattle.macroblock_bits.specs.CodingNeedsLaws.{entry-fits, entry-wrote}
use Rattle.macroblock_bits.proofs.svq1_enc_inter.inner.put_mode.Goals as goal

pub mode_table-table-requires : goal.mode_table-table-requires
mode_table-table-requires c = (good_book _ c.requires.0).size

pub put_code-requires : goal.put_code-requires
put_code-requires c =
    let s = c in
    let p = c.position.ensures in
    entry-fits 4 (mode_table s.args.book.now) _ (good_book _ s.requires.0).mode c.mode_table-table.ensures (mode_position s.args.mode) _ p.0 (rw p.0 at p.1) _ _ s.requires.1

pub returns : goal.returns
returns c =
    let s = c in
    let p = c.position.ensures in
    entry-wrote 4 (mode_table s.args.book.now) _ (good_book _ s.requires.0).mode c.mode_table-table.ensures (mode_position s.args.mode) _ p.0 (rw p.0 at p.1) c.put_code.ensures
