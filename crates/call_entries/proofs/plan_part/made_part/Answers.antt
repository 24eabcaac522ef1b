-- The blocks, and the rest as it is. Assumes nothing.
use borrow.Author.Rules.{rules}
use Rattle.call_entries.proofs.plan_part.made_part.Goals as goal

pub returns : goal.returns
returns c = (rw c.node_parts-nodes.ensures, search rules)
