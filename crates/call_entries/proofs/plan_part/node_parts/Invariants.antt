use Rattle.tree.specs.NodeForms.{tree_of}
use Rattle.call_entries.specs.PlanLaws.{Listing}
use Rattle.call_entries.proofs.plan_part.node_parts.Given as goal

abbrev pub invariant-loop-i : goal.invariant-loop-i
invariant-loop-i l = Listing (tree_of l.blocks) l.nodes l.i
