-- Mode, bits and error, one after the other. Assumes nothing.
use Rattle.replay.specs.CompareLaws.{mode_differs, bits_differ, error_decides}
use Rattle.replay.proofs.inner.compare.same_step.Goals as goal

pub returns-then-number_at-from : goal.returns-then-number_at-from
returns-then-number_at-from c =
    let a = c.args in
    mode_differs a.steps.now a.stated.now a.k _ 0 0 _ 0 0 c.number_at.ensures c.from.ensures c.if-number_at-from.true

pub returns-then-number_at-from-2 : goal.returns-then-number_at-from-2
returns-then-number_at-from-2 c =
    let a = c.args in
    bits_differ a.steps.now a.stated.now a.k _ _ 0 _ _ 0 c.number_at.ensures c.from.ensures c.if-number_at-from.false c.number_at-2.ensures c.from-2.ensures c.if-number_at-from-2.true

pub returns : goal.returns
returns c =
    let a = c.args in
    error_decides a.steps.now a.stated.now a.k _ _ _ _ _ _ c.number_at.ensures c.from.ensures c.if-number_at-from.false c.number_at-2.ensures c.from-2.ensures c.if-number_at-from-2.false c.number_at-3.ensures c.from-3.ensures
