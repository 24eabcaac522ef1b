-- Each test decides one of the names.
use native.Mathlib.Omega.{arith}
use borrow.Author.Tests.{eq-eqb, ne_eqb}
use Rattle.listing_text.specs.LineFormsLaws.{put_room}
use Rattle.listing_text.proofs.inner.lines.put_mode.Goals as goal

pub returns-then-mode-eq0 : goal.returns-then-mode-eq0
returns-then-mode-eq0 c =
    let m = c.args.mode in
    rw (eq-eqb m 0 c.if-mode-eq0.true) (put_room 10 _ _ _ _ _ c.put_text.ensures (omega arith) (omega arith))

pub returns-then-mode-eq1 : goal.returns-then-mode-eq1
returns-then-mode-eq1 c =
    let m = c.args.mode in
    rw (ne_eqb m 0 c.if-mode-eq0.false, eq-eqb m 1 c.if-mode-eq1.true) (put_room 10 _ _ _ _ _ c.put_text-then-mode-eq1.ensures (omega arith) (omega arith))

pub returns-then-mode-eq2 : goal.returns-then-mode-eq2
returns-then-mode-eq2 c =
    let m = c.args.mode in
    rw (ne_eqb m 0 c.if-mode-eq0.false, ne_eqb m 1 c.if-mode-eq1.false, eq-eqb m 2 c.if-mode-eq2.true) (put_room 10 _ _ _ _ _ c.put_text-then-mode-eq2.ensures (omega arith) (omega arith))

pub returns : goal.returns
returns c =
    let m = c.args.mode in
    rw (ne_eqb m 0 c.if-mode-eq0.false, ne_eqb m 1 c.if-mode-eq1.false, ne_eqb m 2 c.if-mode-eq2.false) (put_room 10 _ _ _ _ _ c.put_text-2.ensures (omega arith) (omega arith))
