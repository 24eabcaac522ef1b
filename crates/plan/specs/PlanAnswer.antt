-- A plan as a call: its refusals and its answer (document 01, `svq1_enc_tree.rs`, refusals 5 to 8).
use Rattle.std.specs.Prelude.{ℕ, List}
use Rattle.bits.specs.Refusals.{Answer, done}
use Rattle.bits.specs.Calls.{unless_refused}
use Rattle.book.specs.Book.{tables_of}
use Rattle.codebook.specs.Codebook.{vector_at}
use Rattle.leaf.specs.LeafCall.{BlockIn, terms_of, block_refusal}
use Rattle.tree.specs.Plan.{Weight, Planning, plan_weight}
use Rattle.tree.specs.TreeBits.{Node, plan_tree, tree_shown}

-- what is planned for what a call is asked with
abbrev pub planning_of : BlockIn → ℕ → Planning
planning_of b lambda = record {
  tables = tables_of b.book (terms_of b).half;
  vectors = vector_at b.codebook (terms_of b).half;
  terms = terms_of b;
  lambda = lambda;
  level = b.level;
  target = b.target;
  predictor = b.predictor;
}

-- a plan: its tree, its bits and error, the samples that it shows
pub record PlanMade : Type 0 where
  pub tree : List Node
  pub weight : Weight
  pub shown : List ℕ

unfoldable pub plan_made : BlockIn → ℕ → PlanMade
plan_made b lambda =
    let g = planning_of b lambda in
    record { tree = plan_tree g; weight = plan_weight g; shown = tree_shown g.vectors g.level g.predictor (plan_tree g) }

-- a plan as a call; it takes no result slice
unfoldable pub plan_answer : BlockIn → ℕ → Answer PlanMade
plan_answer b lambda = unless_refused (block_refusal b) (done (plan_made b lambda))
