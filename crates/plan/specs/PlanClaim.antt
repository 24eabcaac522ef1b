-- What is claimed of a plan that is called directly, at any level (document 01, "Behind demand 3": its sentence on plans; document 02, §4).
use Rattle.std.specs.Prelude.{ℕ, ◌+◌, ◌*◌, ◌^◌, ◌≤◌, Bool, List, ◌++◌, ◌≡◌, length}
use Rattle.bits.specs.Basics.{Bytes}
use Rattle.code_tables.specs.Codes.{got}
use Rattle.leaf.specs.Leaf.{sse}
use Rattle.leaf.specs.LeafCall.{BlockIn, block_refusal}
use Rattle.tree.specs.Plan.{Planning, plan_weight, pruned_cost}
use Rattle.tree.specs.TreeBits.{plan_tree, tree_bits, read_tree, tree_shown}
use Rattle.plan.specs.PlanAnswer.{planning_of}

-- lambda up to here
abbrev pub largest_lambda : ℕ
largest_lambda = 2 ^ 48

-- what a plan costs: the squared distance of what its tree shows plus lambda times the bits that its tree writes
unfoldable pub plan_cost : Planning → ℕ
plan_cost p = sse p.target (tree_shown p.vectors p.level p.predictor (plan_tree p)) + p.lambda * length (tree_bits p.tables (plan_tree p))

module _ (b : BlockIn) (lambda : ℕ) where
  pub record PlanClaim : Type 0 where
    -- its stated bits are those that it emits, its stated error is the squared distance of what it shows
    pub bits : (plan_weight (planning_of b lambda)).bits ≡ length (tree_bits (planning_of b lambda).tables (plan_tree (planning_of b lambda)))
    pub error :
        (plan_weight (planning_of b lambda)).err
        ≡ sse b.target (tree_shown (planning_of b lambda).vectors b.level b.predictor (plan_tree (planning_of b lambda)))
    -- up to this lambda every other pruning over the same leaf choices, those that the block's margin gives, costs at least as much
    pub no_pruning_cheaper : lambda ≤ largest_lambda → (cut : ℕ → Bool) → plan_cost (planning_of b lambda) ≤ pruned_cost (planning_of b lambda) cut
    -- its bits, in front of any others, read as the same tree
    pub reads : (rest : List ℕ) → read_tree (planning_of b lambda).tables b.level (tree_bits (planning_of b lambda).tables (plan_tree (planning_of b lambda)) ++ rest) ≡ got (plan_tree (planning_of b lambda)) rest

  -- of every plan call that no refusal meets; the lists are byte slices
  abbrev pub PlanClaimed : Type 0
  PlanClaimed = Bytes b.target → Bytes b.predictor → block_refusal b ≡ 0 → PlanClaim
