-- The chain's links in their order. Assumes nothing.
use Rattle.std.proofs.Common.{rules, sym}
use Rattle.bits.specs.BasicsLaws.{first_passed, first_last}
use Rattle.bits.specs.CallsLaws.{link_met}
use Rattle.plane.proofs.svq1_plane.inner.check_lent.Goals as goal

pub returns-in_err-check_data : goal.returns-in_err-check_data
returns-in_err-check_data c r = search (rules, link_met, c.in_err-check_data.ensures)

pub returns-in_err-check_slices : goal.returns-in_err-check_slices
returns-in_err-check_slices c r =
    let a = c.args in
    first_passed _ _ _ (sym c.in_ok-check_data.ensures) (search (rules, link_met, c.in_err-check_slices.ensures r a.book.now a.codebook.now))

pub returns : goal.returns
returns c r =
    let a = c.args in
    first_passed _ _ _ (sym c.in_ok-check_data.ensures)
    (first_passed _ _ _ (sym (c.in_ok-check_slices.ensures r a.book.now a.codebook.now)) (first_last _ _ c.check_start.ensures))
