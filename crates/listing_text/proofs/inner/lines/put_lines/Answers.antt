-- The lines so far, and one more each turn.
use native.Mathlib.Omega.{arith}
use mathlib.Core.Path.{◌≡◌, refl, ◌∙◌}
use Rattle.visible_error.specs.Visible.{ShownPlane}
use Rattle.visible_error.specs.VisibleNeeds.{shown_by}
use Rattle.listing_text.specs.LineFormsLaws.{no_lines, more_lines}
use Rattle.listing_text.proofs.inner.lines.put_lines.Goals as goal
use Rattle.listing_text.proofs.inner.lines.put_lines.Goals.{Start}

abbrev plane : Start → ShownPlane
plane e = let a = e.args in shown_by a.canvas a.source.now a.recon.now

pub loop-k-init : goal.loop-k-init
loop-k-init c =
    let e = c in
    (refl, no_lines (plane (goal.at.loop-k-init c).Start) e.args.stated.now e.args.text.now)

pub nonzero_div-k : goal.nonzero_div-k
nonzero_div-k c = omega (arith, c.blocks_along-cols.ensures, c.requires.0.fits.width.some)

pub nonzero_rem-k : goal.nonzero_rem-k
nonzero_rem-k c = omega (arith, c.blocks_along-cols.ensures, c.requires.0.fits.width.some)

pub overflow_cast-stated : goal.overflow_cast-stated
overflow_cast-stated c = omega arith

pub loop-k-preserved : goal.loop-k-preserved
loop-k-preserved c =
    let e = c in
    let l = c.loop-k in
    let w = c.put_macroblock_line-at in
    let cols = c.blocks_along-cols.ensures in
    (w.auto.text ∙ l.invariant.0, more_lines (plane (goal.at.loop-k-preserved c).Start) e.args.stated.now e.args.text.now l.k l.at _ _ _ (omega arith) l.invariant.1 (rw (cols, c.visible_block.ensures.0) at w.ensures))

pub returns : goal.returns
returns c =
    let l = c.loop-k in
    let e : l.k ≡ c.args.count = omega arith in
    rw (← e) l.invariant.1
