-- The length in the difference's entry. Assumes nothing.
use Rattle.book.specs.BookLaws.{good_book}
use Rattle.book.specs.Book.{vector_table}
use Rattle.vectors.specs.Vectors.{place_of}
use mir.ValLaws.{to_z-of_z}
use mir.Syntax.{w32}
use mathlib.Core.Path.{◌≡◌, refl}
use Rattle.macroblock_bits.specs.CodingNeedsLaws.{entry_there, entry_counted}
use Rattle.macroblock_bits.proofs.svq1_enc_inter.inner.mv_component_bits.Goals as goal

pub vector_table-table-requires : goal.vector_table-table-requires
vector_table-table-requires c = (good_book _ c.requires.0).size

pub entry_len-requires : goal.entry_len-requires
entry_len-requires c =
    let s = c in
    entry_there 64 (vector_table s.args.book.now) _ (good_book _ s.requires.0).vector c.vector_table-table.ensures c.difference_place-k.result _ refl c.difference_place-k.ensures.1

pub returns : goal.returns
returns c =
    let s = c in
    let a = s.args in
    let p = c.difference_place-k in
    let w : p.result ≡ place_of a.d = simp (to_z-of_z w32 a.d s.ranges.d) at p.ensures.0 in
    entry_counted 64 (vector_table a.book.now) _ (good_book _ s.requires.0).vector c.vector_table-table.ensures (place_of a.d) _ w (rw w at p.ensures.1) _ c.entry_len.ensures
