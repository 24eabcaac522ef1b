-- Laws of a plan's answer.
-- Assumes nothing.
use Rattle.std.specs.Prelude.{ℕ, ◌+◌, ◌≤◌, ◌<◌, ◌≡◌, List, length, take, set, get_or, Ok, Err}
use Rattle.std.proofs.Common.{sym, ◌∙◌, add-one, arith, length-set, take_all, take-suc, take-suc-set}
use Rattle.std.proofs.Math.ListN.{length-map, get_or-map}
use Rattle.bits.specs.Refusals.{number_of}
use Rattle.bits.specs.declared.refusal.Refusal.{Refusal}
use Rattle.leaf.specs.LeafCall.{BlockIn}
use Rattle.tree.specs.Blocks.{block_count}
use Rattle.tree.specs.NodeForms.{tree_of}
use Rattle.plan_call.specs.PlanCall.{PlanAnswered}
use Rattle.tree.specs.TreeBits.{Node, Off}
use Rattle.plan.specs.PlanAnswer.{plan_answer}
use Rattle.plan_call.specs.declared.svq1_enc_tree.PlanAnswer.{PlanAnswer}
use Rattle.call_entries.specs.declared.inner.NodePart.{NodePart}
use Rattle.call_entries.specs.LeafLaws.{filled_back}
use Rattle.call_entries.specs.Node.{bare_node, node_part}
use Rattle.call_entries.specs.Plan.{node_parts, made_part, no_plan, plan_part}

-- ---- the blocks of a tree, one by one
-- the first i blocks stand there
pub record Listing (t : List Node) (nodes : List NodePart) (i : ℕ) : Type 0 where
  pub upto : i ≤ block_count
  pub long : length nodes ≡ block_count
  pub front : take i nodes ≡ take i (node_parts t)

module _ (t : List Node) (whole : length t ≡ block_count) (nodes : List NodePart) (i : ℕ) (g : Listing t nodes i) where
  length_parts : length (node_parts t) ≡ block_count
  unfolding node_parts
  length_parts = length-map t node_part ∙ whole

  part_at : get_or (node_parts t) i (bare_node 0) ≡ node_part (get_or t i Off)
  unfolding node_parts
  part_at = get_or-map node_part t i Off

  pub listed_more : (x : NodePart) → i < block_count → x ≡ node_part (get_or t i Off) → Listing t (set nodes i x) (i + 1)
  listed_more x h e =
      let a : i < length nodes = omega (arith, g.long) in
      let b : i < length (node_parts t) = omega (arith, length_parts) in
      record {
        upto = omega arith;
        long = length-set nodes i x ∙ g.long;
        front = rw (add-one, take-suc-set nodes i x a, take-suc (node_parts t) i (bare_node 0) b, g.front, e, part_at);
      }

  pub listed : block_count ≤ i → nodes ≡ node_parts t
  listed h =
      sym (take_all i nodes (omega (arith, g.long))) ∙ g.front ∙ take_all i (node_parts t) (omega (arith, length_parts))

-- ---- the answers
pub plan_refused : (b : BlockIn) (lambda : ℕ) (r : Refusal) → PlanAnswered b lambda (Err r) → no_plan (number_of r) ≡ plan_part (plan_answer b lambda)
plan_refused b lambda r a = rw (← a.answer)

pub plan_made_lem : (b : BlockIn) (lambda : ℕ) (p : PlanAnswer) → PlanAnswered b lambda (Ok p) → length p.samples ≡ 256
    → made_part (tree_of p.blocks) p.bits p.error p.samples ≡ plan_part (plan_answer b lambda)
plan_made_lem b lambda p a size = rw (← a.answer, filled_back (length b.target) p.samples size a.behind)
