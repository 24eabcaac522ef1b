-- `text::read_number` meets its contract: a first zero before more digits is refused, and else the digits make the number.
use Rattle.std.proofs.Common.{◌<◌, length, sym, ◌∙◌, arith, rules, tests}
use Rattle.text.specs.TextLaws.{number_empty, number_one, number_more}
use Rattle.text.proofs.read_number.Goals as goal
use Rattle.text.proofs.read_number.Goals.{else-t-gt1-via-then-t-gt1+else-t-eq48, else-t-gt1-via-else-t-gt1}

pub returns-then-is_empty : goal.returns-then-is_empty
returns-then-is_empty c = sym (number_empty c.args.most c.args.t.now (search (rules, tests)))

pub returns : goal.returns
returns c =
    let a = c.args in
    let some : 0 < length a.t.now = search (rules, tests) in
    c.read_digits.ensures ∙ elim c.else-t-gt1.branch [
      | else-t-gt1-via-then-t-gt1+else-t-eq48 w ↦ sym (number_more a.most a.t.now w.if-t-gt1.true w.if-t-eq48.false)
      | else-t-gt1-via-else-t-gt1 w ↦ sym (number_one a.most a.t.now (omega (arith, some, w.if-t-gt1.false)))
    ]
