-- The two costs compared are those of the rule.
use Rattle.plan.specs.PlannedForms.{decided_split, decided_leaf}
use Rattle.plan.proofs.svq1_enc_tree.inner.decide.Goals as goal

pub returns-then-cost : goal.returns-then-cost
returns-then-cost c = decided_split _ _ _ _ _ _ c.cost.ensures c.cost-2.ensures c.if-cost.true

pub returns-else-cost : goal.returns-else-cost
returns-else-cost c = decided_leaf _ _ _ _ _ _ c.cost.ensures c.cost-2.ensures c.if-cost.false
