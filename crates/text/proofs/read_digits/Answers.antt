-- `text::read_digits` meets its contract: the number of the digits passed and the digits left make the whole.
use Rattle.std.proofs.Common.{sym, ◌∙◌, arith, rules}
use Rattle.text.specs.TextLaws.{digits_step, digits_other, digits_past, digits_end}
use Rattle.text.proofs.read_digits.Goals as goal

pub returns-in_err-d : goal.returns-in_err-d
returns-in_err-d c =
    let a = c.args in
    let l = c.loop-c in
    search (rules, sym (l.invariant.1 ∙ digits_other a.most l.n a.t.now l.c-index (omega arith) (sym c.in_err-d.ensures)))

pub returns-then-most-d : goal.returns-then-most-d
returns-then-most-d c =
    let a = c.args in
    let l = c.loop-c in
    sym (l.invariant.1 ∙ digits_past a.most l.n c.in_ok-d.d a.t.now l.c-index (omega arith) (sym c.in_ok-d.ensures) (omega arith))

pub loop-c-preserved : goal.loop-c-preserved
loop-c-preserved c =
    let a = c.args in
    let l = c.loop-c in
    (omega arith, l.invariant.1 ∙ digits_step a.most l.n c.in_ok-d.d a.t.now l.c-index (omega arith) (sym c.in_ok-d.ensures) (omega arith))

pub returns : goal.returns
returns c =
    let a = c.args in
    let l = c.loop-c in
    sym (l.invariant.1 ∙ digits_end a.most l.n a.t.now l.c-index (omega arith))
