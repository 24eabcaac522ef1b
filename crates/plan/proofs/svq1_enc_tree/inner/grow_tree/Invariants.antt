use lib.ListN.{get_or}
use Rattle.plan.specs.PlannedFormsLaws.{blank}
use Rattle.plan.specs.PlanNeeds.{planned_node}
use Rattle.plan.specs.GrowLaws.{Growing}
use Rattle.plan.proofs.svq1_enc_tree.inner.grow_tree.Given as goal

abbrev pub invariant-loop-i : goal.invariant-loop-i
invariant-loop-i l = Growing l.root (λ k. planned_node (get_or l.a k blank)) l.t l.i
