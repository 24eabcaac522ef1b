-- The code of the book's vector table. Assumes nothing.
use native.Mathlib.Omega.{arith}
use Rattle.std.specs.Prelude.{◌*◌, ◌≡◌, ◌<◌, length, Result, Ok, Err, IfOk, List, ℕ}
use Rattle.bits.specs.declared.refusal.Refusal.{Refusal}
use Rattle.code_tables.specs.declared.svq1_vlc.CodeFound.{CodeFound}
use Rattle.book.specs.BookLaws.{good_book}
use Rattle.macroblock_dec.specs.FindingNeeds.{PositionFound}
use Rattle.macroblock_dec.proofs.svq1_plane.inner.codes.read_mv_component.Goals as goal

-- the table has 64 entries
low : (s : List ℕ) (at : ℕ) (t : List ℕ) (r : Result CodeFound Refusal) → length t ≡ 3 * 64 → PositionFound s at t r → IfOk r (λ c. c.position < 64)
low s at t (Ok c) size p = omega (arith, p.1)
low s at t (Err n) size p = tt

pub vector_table-requires : goal.vector_table-requires
vector_table-requires c = (good_book _ c.requires.passes).size

pub read_position-requires : goal.read_position-requires
read_position-requires c =
    let g = (good_book c.args.book.now c.requires.passes).vector in
    rw c.vector_table.ensures (c.requires.from, g.good)

pub returns : goal.returns
returns c =
    let g = (good_book c.args.book.now c.requires.passes).vector in
    let p = rw c.vector_table.ensures at c.read_position.ensures in
    (p, low c.args.s.now c.args.at _ _ g.size p)
