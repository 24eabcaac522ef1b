-- The difference's code by its position. Assumes nothing.
use Rattle.book.specs.BookLaws.{good_book}
use Rattle.book.specs.Book.{vector_table}
use Rattle.vectors.specs.Vectors.{place_of}
use mir.ValLaws.{to_z-of_z}
use mir.Syntax.{w32}
use mathlib.Core.Path.{◌≡◌}
use Rattle.macroblock_bits.specs.CodingNeedsLaws.{entry-fits, entry-wrote}
use Rattle.macroblock_bits.proofs.svq1_enc_inter.inner.put_component.Goals as goal

pub vector_table-table-requires : goal.vector_table-table-requires
vector_table-table-requires c = (good_book _ c.requires.0).size

pub put_code-requires : goal.put_code-requires
put_code-requires c =
    let s = c in
    let a = s.args in
    let p = c.difference_place-k in
    let w : p.result ≡ place_of a.d = simp (to_z-of_z w32 a.d s.ranges.d) at p.ensures.0 in
    entry-fits 64 (vector_table a.book.now) _ (good_book _ s.requires.0).vector c.vector_table-table.ensures (place_of a.d) _ w (rw w at p.ensures.1) _ _ s.requires.2

pub returns : goal.returns
returns c =
    let s = c in
    let a = s.args in
    let p = c.difference_place-k in
    let w : p.result ≡ place_of a.d = simp (to_z-of_z w32 a.d s.ranges.d) at p.ensures.0 in
    entry-wrote 64 (vector_table a.book.now) _ (good_book _ s.requires.0).vector c.vector_table-table.ensures (place_of a.d) _ w (rw w at p.ensures.1) c.put_code.ensures
