-- `house_entry` meets its contract: the rank and the logarithm are the rule's.
use Rattle.std.proofs.Common.{◌+◌, ◌≡◌, arith}
use Rattle.house.specs.House.{log_under}
use Rattle.house_rules.specs.RulesLaws.{log_is}
use Rattle.house_rules.proofs.house_entry.Goals as goal

pub returns : goal.returns
returns c =
    let log : c.ilog2.result ≡ log_under 16 (c.house_rank-rank.result + 1) =
    log_is 16 (c.house_rank-rank.result + 1) c.ilog2.result (omega arith) c.ilog2.ensures.power_le c.ilog2.ensures.next_power_gt in
    rw (log, c.house_rank-rank.ensures.0)
