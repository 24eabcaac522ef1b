-- `house_rules::signed_rank` meets its contract: the test tells which case of the rule it is. Assumes nothing.
use borrow.Author.Rules.{rules}
use Rattle.house_rules.specs.RulesLaws.{rank_above, rank_rest}
use Rattle.house_rules.proofs.signed_rank.Goals as goal

pub returns-then-zero-position : goal.returns-then-zero-position
returns-then-zero-position c = let a = c.args in (rank_above a.position a.zero (search rules), search rules)

pub returns : goal.returns
returns c = let a = c.args in (rank_rest a.position a.zero (search rules), search rules)
