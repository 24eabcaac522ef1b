-- A plan as a call, in memory: what its struct answers, and what its parts ask and leave (document 01, refusal 8).
use Rattle.std.specs.Prelude.{◌≡◌, List, ℕ, ◌-◌, ◌≤◌, length, take, drop, replicate, Result, Ok, Err, IfOk}
use Rattle.bits.specs.Basics.{All}
use Rattle.bits.specs.Refusals.{Answer, done, refused, number_of}
use Rattle.bits.specs.declared.refusal.Refusal.{Refusal}
use Rattle.book.specs.Level.{area}
use Rattle.codebook.specs.Codebook.{vector_at}
use Rattle.leaf_call.specs.LeafAnswer.{Searchable}
use Rattle.leaf.specs.LeafCall.{BlockIn}
use Rattle.leaf.specs.declared.svq1_enc_leaf.LeafTerms.{LeafTerms}
use Rattle.tree.specs.NodeForms.{tree_of, CleanBlock}
use Rattle.plan.specs.PlanClaim.{PlanClaim}
use Rattle.plan.specs.PlannedForms.{weight}
use Rattle.plan.specs.PlanNeeds.{planning_in, PlanFound}
use Rattle.tree.specs.TreeBits.{plan_tree, tree_shown}
use Rattle.plan.specs.PlanAnswer.{PlanMade, plan_answer}
use Rattle.plan.specs.declared.svq1_enc_tree.MbPlan.{MbPlan}
use Rattle.plan_call.specs.declared.svq1_enc_tree.PlanAnswer.{PlanAnswer}

-- ---- the call
-- what an accepted call asks of its parts: as a leaf's, and 256 zeros to show into
pub record Plannable (book codebook raised : List ℕ) (d : ℕ) (terms : LeafTerms) (target predictor samples : List ℕ) : Type 0 where
  pub ready : Searchable book codebook raised d terms target predictor
  pub five : d ≤ 5
  pub zeros : samples ≡ replicate 256 0

-- and what it finds: the plan, and its samples with zeros behind them
pub record PlanShown (book codebook : List ℕ) (d : ℕ) (terms : LeafTerms) (target predictor : List ℕ) (lambda : ℕ) (r : MbPlan) (left : List ℕ) : Type 0 where
  pub found : PlanFound (planning_in terms book codebook lambda d target predictor) r
  pub front : take (area d) left ≡ tree_shown (vector_at codebook terms.half) d predictor (plan_tree (planning_in terms book codebook lambda d target predictor))
  pub behind : drop (area d) left ≡ replicate (256 - area d) 0

-- the answer for a block of n samples, by the struct's fields
abbrev pub plan_answer_of : ℕ → Result PlanAnswer Refusal → Answer PlanMade
plan_answer_of n (Ok a) = done (record { tree = tree_of a.blocks; weight = weight a.bits a.error; shown = take n a.samples })
plan_answer_of n (Err r) = refused (number_of r)

-- a call's answer: by the definition, with zeros behind the block's samples and every block in its one form; of an accepted one document 01's sentence on plans
-- holds
pub record PlanAnswered (b : BlockIn) (lambda : ℕ) (r : Result PlanAnswer Refusal) : Type 0 where
  pub answer : plan_answer_of (length b.target) r ≡ plan_answer b lambda
  pub behind : IfOk r (λ a. drop (length b.target) a.samples ≡ replicate (256 - length b.target) 0)
  pub clean : IfOk r (λ a. All CleanBlock a.blocks)
  pub claimed : IfOk r (λ a. PlanClaim b lambda)
