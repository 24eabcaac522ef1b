-- The length in the mode's entry. Assumes nothing.
use mathlib.Core.Path.{refl}
use Rattle.book.specs.BookLaws.{good_book}
use Rattle.book.specs.Book.{mode_table}
use Rattle.macroblock.specs.Mode.{mode_position}
use Rattle.macroblock_bits.specs.CodingNeedsLaws.{entry_there, entry_counted}
use Rattle.macroblock_bits.proofs.svq1_enc_inter.inner.mb_mode_bits.Goals as goal

pub mode_table-table-requires : goal.mode_table-table-requires
mode_table-table-requires c = (good_book _ c.requires).size

pub entry_len-requires : goal.entry_len-requires
entry_len-requires c =
    let s = c in
    let p = c.position.ensures in
    entry_there 4 (mode_table s.args.book.now) _ (good_book _ s.requires).mode c.mode_table-table.ensures c.position.result _ refl p.1

pub returns : goal.returns
returns c =
    let s = c in
    let p = c.position.ensures in
    entry_counted 4 (mode_table s.args.book.now) _ (good_book _ s.requires).mode c.mode_table-table.ensures (mode_position s.args.mode) _ p.0 (rw p.0 at p.1) _ c.entry_len.ensures
