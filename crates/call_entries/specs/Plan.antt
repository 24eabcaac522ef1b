-- What a plan answers, field by field (document 01, `svq1_enc_tree.rs`, refusals 5 to 8).
use Rattle.std.specs.Prelude.{ℕ, List, map, replicate}
use Rattle.bits.specs.Refusals.{Answer, done, refused}
use Rattle.tree.specs.Blocks.{block_count}
use Rattle.tree.specs.TreeBits.{Node}
use Rattle.plan.specs.PlanAnswer.{PlanMade}
use Rattle.call_entries.specs.Leaf.{filled}
use Rattle.call_entries.specs.Node.{bare_node, node_part}
use Rattle.call_entries.specs.declared.inner.NodePart.{NodePart}
use Rattle.call_entries.specs.declared.plan_part.PlanPart.{PlanPart}

-- the blocks of a tree by number
unfoldable pub node_parts : List Node → List NodePart
node_parts t = map node_part t

-- a tree with its bits, its error and 256 samples
abbrev pub made_part : List Node → ℕ → ℕ → List ℕ → PlanPart
made_part t bits error samples = record { bits = bits; error = error; nodes = node_parts t; refused = 0; samples = samples }

-- a refusal's number, everything else 0
abbrev pub no_plan : ℕ → PlanPart
no_plan n = record {
  bits = 0;
  error = 0;
  nodes = replicate block_count (bare_node 0);
  refused = n;
  samples = replicate 256 0;
}

-- the answer of the call
abbrev pub plan_part : Answer PlanMade → PlanPart
plan_part (done p) = made_part p.tree p.weight.bits p.weight.err (filled p.shown)
plan_part (refused n) = no_plan n
