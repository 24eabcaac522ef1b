-- The plane and its canvas, then what is lent. Assumes nothing.
use mathlib.Core.Path.{refl}
use borrow.Author.Rules.{rules}
use Rattle.bits.specs.CallsLaws.{refusal_met}
use Rattle.macroblock.specs.MacroblockNeeds.{given_by}
use Rattle.plane_dec.specs.ReaderNeedsLaws.{by_plane, by_lent}
use Rattle.plane_dec.proofs.svq1_plane.inner.check_read.Goals as goal

pub returns-in_err-check_plane : goal.returns-in_err-check_plane
returns-in_err-check_plane c =
    let a = c.args in
    let e = by_plane (given_by a.canvas a.reference.now a.book.now a.codebook.now) a.bytes a.start a.slices _ c.in_err-check_plane.ensures (refusal_met _ _ refl) in
    search (rules, e)

pub returns : goal.returns
returns c =
    let a = c.args in
    by_lent (given_by a.canvas a.reference.now a.book.now a.codebook.now) a.bytes a.start a.slices 0 c.in_ok-check_plane.ensures _ refl (c.check_lent.ensures a.reference.now)
