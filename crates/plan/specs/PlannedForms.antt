-- The records of the plan's code and the array that holds them, with their saturating costs (document 01, `svq1_enc_tree.rs`).
use Rattle.std.specs.Prelude.{◌≡◌, Bool, true, false, ℕ, ◌^◌, ◌≤◌, ◌<◌}
use Rattle.std.proofs.Math.Path.{sym}
use borrow.Author.Tests.{lt-ltb, le-ltb}
use Rattle.bits.specs.Basics.{pick}
use Rattle.leaf.specs.LentNeeds.{Clean}
use Rattle.tree.specs.Plan.{Weight, cost, joint_weight, flagged, cheaper}
use Rattle.plan.specs.declared.svq1_enc_tree.PlannedBlock.{PlannedBlock}

-- bits and an error as a weight, and what a record weighs
abbrev pub weight : ℕ → ℕ → Weight
weight n e = record { bits = n; err = e }

abbrev pub weigh : PlannedBlock → Weight
weigh b = weight b.bits b.error

-- sums over a whole tree stay far below 32 bits
pub record Light (b : PlannedBlock) : Type 0 where
  pub bits : b.bits < 65536
  pub error : b.error < 2 ^ 30

-- the leaf choice in its one form
abbrev pub CleanChoice : PlannedBlock → Type 0
CleanChoice b = Clean b.code b.stages

-- the leaf l as what it or a split weighs
abbrev pub decided_as : Bool → PlannedBlock → Weight → PlannedBlock
decided_as split l w = record { split = split; bits = w.bits; error = w.err; code = l.code; stages = l.stages }

-- a leaf, or a split where that is strictly cheaper
unfoldable pub decided : ℕ → PlannedBlock → PlannedBlock → PlannedBlock → PlannedBlock
decided lambda l x y =
    pick (cheaper lambda (joint_weight (weigh x) (weigh y)) (flagged (weigh l)))
    (decided_as true l (joint_weight (weigh x) (weigh y))) (decided_as false l (flagged (weigh l)))

-- the two ways to decide, by the costs p and q as they were computed
module _ (lambda : ℕ) (l x y : PlannedBlock) (p q : ℕ) (hp : p ≡ cost lambda (joint_weight (weigh x) (weigh y))) (hq : q ≡ cost lambda (flagged (weigh l))) where
  pub decided_split : p < q → decided_as true l (joint_weight (weigh x) (weigh y)) ≡ decided lambda l x y
  unfolding decided
  decided_split h = sym (rw (← hp, ← hq, lt-ltb p q h))

  pub decided_leaf : q ≤ p → decided_as false l (flagged (weigh l)) ≡ decided lambda l x y
  unfolding decided
  decided_leaf h = sym (rw (← hp, ← hq, le-ltb p q h))
