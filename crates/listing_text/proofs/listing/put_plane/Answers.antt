-- A refusal, or the lines and the total behind them.
use native.Mathlib.Omega.{arith}
use Rattle.visible_error.specs.Visible.{ShownPlane}
use Rattle.visible_error.specs.VisibleNeeds.{shown_by}
use Rattle.listing_text.specs.ListedLaws.{put_refused_end, put_listed_end}
use Rattle.listing_text.proofs.listing.put_plane.Goals as goal
use Rattle.listing_text.proofs.listing.put_plane.Goals.{Start}

abbrev plane : Start → ShownPlane
plane e = let a = e.args in shown_by a.canvas a.source.now a.recon.now

pub returns-in-Some : goal.returns-in-Some
returns-in-Some c =
    let e = c in
    let a = e.args in
    put_refused_end (plane (goal.at.returns-in-Some c).Start) a.stated.now a.end a.text.now e.requires.1 _ _ c.in-Some.refusal c.in-Some.is c.put_refused.ensures

pub put_lines-at-requires : goal.put_lines-at-requires
put_lines-at-requires c =
    let e = c in
    let p = e.requires.0 in
    (p.fits, p.done, omega (arith, p.done, p.few, p.numbers), omega (arith, p.done, p.few, e.requires.1))

pub visible_total-error-requires : goal.visible_total-error-requires
visible_total-error-requires c = c.requires.0.fits

pub put_total_line-requires : goal.put_total_line-requires
put_total_line-requires c =
    let e = c in
    let p = e.requires.0 in
    let w = c.put_lines-at in
    omega (arith, p.done, p.few, e.requires.1, w.ensures.next, w.ensures.short, w.auto.text)

pub returns : goal.returns
returns c =
    let e = c in
    let a = e.args in
    let p = e.requires.0 in
    put_listed_end (plane (goal.at.returns c).Start) a.stated.now a.end a.text.now e.requires.1 _ _ _ _ c.in_default.is (omega (arith, p.done, p.few)) c.put_lines-at.ensures (rw c.visible_total-error.ensures at c.put_total_line.ensures)
