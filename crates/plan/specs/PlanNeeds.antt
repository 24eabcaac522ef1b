-- What the functions of `inner` ask and find when they plan a block (document 01, `svq1_enc_tree.rs`, over the definitions of tree/specs/Plan).
use Rattle.std.specs.Prelude.{◌≡◌, true, false, List, ℕ, ◌≤◌, ◌<◌, length}
use Rattle.bits.specs.Basics.{pick, All}
use Rattle.book.specs.Book.{tables_of, book_refusal, codebook_bytes}
use Rattle.book.specs.Level.{width, area}
use Rattle.book.specs.declared.svq1_vlc.Svq1Half.TheVariants.{Inter}
use Rattle.codebook.specs.Codebook.{vector_at}
use Rattle.codebook.specs.CodebookForms.{page_start, raised_codebook}
use Rattle.leaf.specs.Leaf.{Leaf, Vectors, sse, leaf_shown, leaf_rule, terms_at}
use Rattle.leaf.specs.LentNeeds.{Clean}
use Rattle.leaf.specs.LeafForms.{leaf_of, vectors_in}
use Rattle.leaf_search.specs.declared.svq1_enc_leaf.LeafChoice.{LeafChoice}
use Rattle.leaf.specs.declared.svq1_enc_leaf.LeafCode.{LeafCode}
use Rattle.leaf.specs.declared.svq1_enc_leaf.LeafTerms.{LeafTerms}
use Rattle.tree.specs.Blocks.{block_count, level, block_of}
use Rattle.tree.specs.Plan.{Planning, plan_weight}
use Rattle.plan.specs.PlannedForms.{weight}
use Rattle.tree_samples.specs.SubtreeForms.{in_tree}
use Rattle.tree.specs.TreeBits.{Node, Split, Ends, plan_tree}
use Rattle.tree.specs.NodeForms.{tree_of, CleanBlock}
use Rattle.plan.specs.declared.svq1_enc_tree.MbPlan.{MbPlan}
use Rattle.plan.specs.declared.svq1_enc_tree.PlannedBlock.{PlannedBlock}

-- ---- one leaf
-- block i lies under the root of a block of level d
pub record BlockReady (d i : ℕ) : Type 0 where
  pub block : i < block_count
  pub under : in_tree d i ≡ true

-- the raised codebook, a target and a predictor of level d by their lengths, and block i in them
pub record LeafReady (terms : LeafTerms) (raised d target predictor i : ℕ) : Type 0 where
  pub copied : raised ≡ codebook_bytes
  pub few : terms.cap ≤ 6
  pub five : d ≤ 5
  pub target_long : target ≡ area d
  pub predictor_long : predictor ≡ area d
  pub here : BlockReady d i

-- scratch for a block of level d
pub record Scratch (d t p sums shown : ℕ) : Type 0 where
  pub t_long : t ≡ area d
  pub p_long : p ≡ area d
  pub sums_long : sums ≡ 256
  pub shown_long : shown ≡ 256

-- the leaf choice of block i by the raised codebook, in its one form, and its error
module _ (terms : LeafTerms) (raised : List ℕ) (d : ℕ) (target predictor : List ℕ) (i : ℕ) where
  abbrev block_in : List ℕ → List ℕ
  block_in = block_of (width d) (level i) i

  abbrev page_of : Vectors
  page_of = vectors_in raised (page_start terms.half (level i)) (area (level i))

  abbrev leaf_in : Leaf
  leaf_in = leaf_rule (terms_at (level i) terms) page_of (block_in target) (block_in predictor)

  pub record BlockLeaf (r : LeafChoice) : Type 0 where
    pub leaf : leaf_of r.code r.stages ≡ leaf_in
    pub erring : r.error ≡ sse (block_in target) (leaf_shown page_of (block_in predictor) leaf_in)
    pub clean : Clean r.code r.stages

-- ---- the plan
-- tables that pass, the codebook's raised copy, at most six stages, skip with the inter half only, a target and a predictor of level d
pub record PlanReady (terms : LeafTerms) (book codebook raised : List ℕ) (d : ℕ) (target predictor : List ℕ) : Type 0 where
  pub good : book_refusal book ≡ 0
  pub whole : length codebook ≡ codebook_bytes
  pub copy : raised ≡ raised_codebook codebook
  pub few : terms.cap ≤ 6
  pub inter : terms.skip ≡ true → terms.half ≡ Inter
  pub five : d ≤ 5
  pub target_long : length target ≡ area d
  pub predictor_long : length predictor ≡ area d

-- what is planned, by the parameters
abbrev pub planning_in : LeafTerms → List ℕ → List ℕ → ℕ → ℕ → List ℕ → List ℕ → Planning
planning_in terms book codebook lambda d target predictor = record {
  tables = tables_of book terms.half;
  vectors = vector_at codebook terms.half;
  terms = terms;
  lambda = lambda;
  level = d;
  target = target;
  predictor = predictor;
}

-- a leaf choice with its bits
abbrev pub leaf_record : LeafCode → List ℕ → ℕ → ℕ → PlannedBlock
leaf_record c js n e = record { split = false; bits = n; error = e; code = c; stages = js }

-- the node that a planned block stands for where it is reached
abbrev pub planned_node : PlannedBlock → Node
planned_node b = pick b.split Split (Ends (leaf_of b.code b.stages))

-- the plan of the definitions, with what it weighs, its blocks in their one form
pub record PlanFound (g : Planning) (r : MbPlan) : Type 0 where
  pub tree : tree_of r.blocks ≡ plan_tree g
  pub weighs : weight r.bits r.error ≡ plan_weight g
  pub clean : All CleanBlock r.blocks
