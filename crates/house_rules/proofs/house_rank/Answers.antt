-- `house_rules::house_rank` meets its contract: the tests met tell the table, as in the rule. Assumes nothing.
use native.Mathlib.Omega.{arith}
use borrow.Author.Tests.{lt-ltb, le-ltb}
use Rattle.house.specs.House.{rank}
use Rattle.house_rules.proofs.house_rank.Goals as goal

pub returns-then-entry-lt4 : goal.returns-then-entry-lt4
unfolding rank
returns-then-entry-lt4 c = let e = c.args.entry in (rw (lt-ltb e 4 (omega arith)), omega arith)

pub returns-then-entry-lt68 : goal.returns-then-entry-lt68
unfolding rank
returns-then-entry-lt68 c =
    let e = c.args.entry in
    (rw (le-ltb e 4 (omega arith), lt-ltb e 68 (omega arith)) c.signed_rank.ensures.0, omega arith)

pub returns-then-entry-lt324 : goal.returns-then-entry-lt324
unfolding rank
returns-then-entry-lt324 c =
    let e = c.args.entry in
    (rw (le-ltb e 4 (omega arith), le-ltb e 68 (omega arith), lt-ltb e 324 (omega arith)), omega arith)

pub returns-then-entry-lt836 : goal.returns-then-entry-lt836
unfolding rank
returns-then-entry-lt836 c =
    let e = c.args.entry in
    (rw (le-ltb e 4 (omega arith), le-ltb e 68 (omega arith), le-ltb e 324 (omega arith), lt-ltb e 836 (omega arith)) c.signed_rank-then-entry-lt836.ensures.0, omega arith)

pub returns : goal.returns
unfolding rank
returns c =
    let e = c.args.entry in
    (rw (le-ltb e 4 (omega arith), le-ltb e 68 (omega arith), le-ltb e 324 (omega arith), le-ltb e 836 (omega arith)), omega arith)
