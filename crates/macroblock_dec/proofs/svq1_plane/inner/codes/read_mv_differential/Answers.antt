-- The second component behind the first. Assumes nothing.
use Rattle.macroblock_dec.specs.FindingNeedsLaws.{first_component_refused, second_component_refused, difference_found}
use borrow.Author.Rules.{rules}
use Rattle.macroblock_dec.proofs.svq1_plane.inner.codes.read_mv_differential.Goals as goal

pub returns-in_err-x : goal.returns-in_err-x
returns-in_err-x c =
    let e = first_component_refused c.args.s.now c.args.book.now c.args.at _ c.in_err-x.ensures.0 in
    search (rules, e)

pub returns-in_err-y : goal.returns-in_err-y
returns-in_err-y c =
    let e = second_component_refused c.args.s.now c.args.book.now c.args.at _ _ c.in_ok-x.ensures.0.0 _ c.in_err-y.ensures.0 in
    search (rules, e)

pub returns : goal.returns
returns c =
    (difference_found c.args.s.now c.args.book.now c.args.at _ _ c.in_ok-x.ensures.0.0 _ _ c.in_ok-y.ensures.0.0, (c.in_ok-x.ensures.1, c.in_ok-y.ensures.1))
