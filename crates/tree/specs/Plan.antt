-- The plan of a block: its leaf choices, costs, prunings, and which blocks it splits (document 01, `svq1_enc_tree.rs`, "Behind demand 3").
use Rattle.std.specs.Prelude.{ℕ, zero, suc, ◌+◌, ◌-◌, ◌*◌, ◌^◌, min, Bool, false, List, ltb, length}
use Rattle.bits.specs.Basics.{pick}
use Rattle.book.specs.Book.{Tables}
use Rattle.book.specs.Level.{width}
use Rattle.leaf.specs.Leaf.{Leaf, Vectors, sse, leaf_shown, leaf_rule, terms_at}
use Rattle.leaf.specs.LeafBits.{leaf_bits}
use Rattle.leaf.specs.declared.svq1_enc_leaf.LeafTerms.{LeafTerms}
use Rattle.tree.specs.Blocks.{left, right, level, first, block_of}

-- ---- costs
-- bits and error of a part of a tree
pub record Weight : Type 0 where
  pub bits : ℕ
  pub err : ℕ

-- error + lambda × bits
abbrev pub total : ℕ → Weight → ℕ
total lambda w = w.err + lambda * w.bits

-- numbers of 64 bits end here
abbrev pub saturated : ℕ → ℕ
saturated n = min n (2 ^ 64 - 1)

-- the cost that choices go by: error + lambda × bits, saturating
abbrev pub cost : ℕ → Weight → ℕ
cost lambda w = saturated (total lambda w)

-- a split: one flag bit and the two parts
abbrev pub joint_weight : Weight → Weight → Weight
joint_weight a b = record { bits = a.bits + b.bits + 1; err = a.err + b.err }

-- a leaf above L0: one flag bit and the leaf
abbrev pub flagged : Weight → Weight
flagged a = record { bits = a.bits + 1; err = a.err }

-- the first costs strictly less
abbrev pub cheaper : ℕ → Weight → Weight → Bool
cheaper lambda a b = ltb (cost lambda a) (cost lambda b)

-- what the plan of block i, of level d, weighs, given what each block weighs as a leaf: a split wins only if strictly cheaper
unfoldable pub planned : (ℕ → Weight) → ℕ → ℕ → ℕ → Weight
planned leaf lambda zero i = leaf i
planned leaf lambda (suc d) i =
    let parts = joint_weight (planned leaf lambda d (left i)) (planned leaf lambda d (right i)) in
    pick (cheaper lambda parts (flagged (leaf i))) parts (flagged (leaf i))

-- whether the plan splits block i of level d
unfoldable pub splits : (ℕ → Weight) → ℕ → ℕ → ℕ → Bool
splits leaf lambda zero i = false
splits leaf lambda (suc d) i =
    cheaper lambda (joint_weight (planned leaf lambda d (left i)) (planned leaf lambda d (right i))) (flagged (leaf i))

-- what any pruning weighs: it starts at block i, and `cut` says of each block that it reaches whether it is split; L0 never is
unfoldable pub pruned : (ℕ → Weight) → (ℕ → Bool) → ℕ → ℕ → Weight
pruned leaf cut zero i = leaf i
pruned leaf cut (suc d) i = pick (cut i) (joint_weight (pruned leaf cut d (left i)) (pruned leaf cut d (right i))) (flagged (leaf i))

-- ---- the plan of a block
-- what a plan is made from: a half's tables and its vectors by level, the terms of its leaves, which name the same half, and the block with its predictor
pub record Planning : Type 0 where
  pub tables : Tables
  pub vectors : ℕ → Vectors
  pub terms : LeafTerms
  pub lambda : ℕ
  pub level : ℕ
  pub target : List ℕ
  pub predictor : List ℕ

-- a block is a plane of its own: its stride is its width, and its root the first block of its level
abbrev pub stride : Planning → ℕ
stride g = width g.level

abbrev pub root : Planning → ℕ
root g = first g.level

-- the leaf choice of block i, what a leaf shows there, and what the choice weighs
unfoldable pub leaf_at : Planning → ℕ → Leaf
leaf_at g i =
    leaf_rule (terms_at (level i) g.terms) (g.vectors (level i))
    (block_of (stride g) (level i) i g.target) (block_of (stride g) (level i) i g.predictor)

unfoldable pub shown_at : (ℕ → Vectors) → ℕ → List ℕ → ℕ → Leaf → List ℕ
shown_at vectors s predictor i l = leaf_shown (vectors (level i)) (block_of s (level i) i predictor) l

unfoldable pub weight_at : Planning → ℕ → Weight
weight_at g i = record {
  bits = length (leaf_bits g.tables (level i) (leaf_at g i));
  err = sse (block_of (stride g) (level i) i g.target) (shown_at g.vectors (stride g) g.predictor i (leaf_at g i));
}

-- the bits and the error that the plan states
unfoldable pub plan_weight : Planning → Weight
plan_weight g = planned (weight_at g) g.lambda g.level (root g)

-- whether the plan splits block i
unfoldable pub plan_splits : Planning → ℕ → Bool
plan_splits g i = splits (weight_at g) g.lambda (level i) i

-- what a pruning of the plan's tree over the same leaf choices costs
unfoldable pub pruned_cost : Planning → (ℕ → Bool) → ℕ
pruned_cost g cut = total g.lambda (pruned (weight_at g) cut g.level (root g))
