-- Laws of a plan as a call.
-- Assumes nothing.
use Rattle.std.specs.Prelude.{◌≡◌, refl, List, ℕ, zero, suc, ◌≤◌, length, take, drop, replicate, Ok, Err}
use Rattle.std.proofs.Common.{ap, ◌∙◌, arith, eq-eqb}
use Rattle.bits.specs.Basics.{Bytes}
use Rattle.bits.specs.Refusals.{number_of, done}
use Rattle.bits.specs.CallsLaws.{answer_met}
use Rattle.bits.specs.declared.refusal.Refusal.{Refusal}
use Rattle.book.specs.Level.{area}
use Rattle.codebook.specs.Codebook.{vector_at}
use Rattle.leaf.specs.LeafCall.{BlockIn, terms_of, block_refusal}
use Rattle.leaf.specs.declared.svq1_enc_leaf.LeafTerms.{LeafTerms}
use Rattle.leaf_call.specs.LeafAnswerLaws.{block_passes, drop_replicate}
use Rattle.codebook.specs.CodebookForms.{raised_codebook}
use Rattle.codebook.specs.CodebookFormsLaws.{raised-length}
use Rattle.tree.specs.GeometryLaws.{area_most}
use Rattle.tree.specs.Plan.{Planning}
use Rattle.plan.specs.PlanNeeds.{PlanReady, planning_in, PlanFound}
use Rattle.plan.specs.PlanNeedsLaws.{plan_ready}
use Rattle.tree_samples.specs.ShownLaws.{rebuilt-shown}
use Rattle.tree.specs.TreeBits.{tree_shown}
use Rattle.plan.specs.PlanAnswer.{plan_made, plan_answer}
use Rattle.tree.specs.NodeForms.{tree_of}
use Rattle.tree.specs.WalkNeeds.{SoundTree}
use Rattle.plan.specs.FrontNeeds.{FrontReady, FrontShown}
use Rattle.plan_call.specs.PlanCall.{Plannable, PlanShown, PlanAnswered}
use Rattle.plan.specs.declared.svq1_enc_tree.MbPlan.{MbPlan}
use Rattle.plan.specs.PlanClaimLaws.{plan_claimed}
use Rattle.plan.specs.SoundLaws.{plan_sound}

module _ (book codebook raised : List ℕ) (d : ℕ) (terms : LeafTerms) (target predictor samples : List ℕ)
    (q : Plannable book codebook raised d terms target predictor samples) where
  pub call_ready : (copied : List ℕ) → copied ≡ raised_codebook codebook → PlanReady terms book codebook copied d target predictor
  call_ready copied e =
      record {
        good = q.ready.known;
        whole = q.ready.codebook_size;
        copy = e;
        few = q.ready.stages;
        inter = q.ready.skips;
        five = q.five;
        target_long = q.ready.target;
        predictor_long = q.ready.predictor;
      }

  module _ (copied : List ℕ) (e : copied ≡ raised_codebook codebook) (bt : Bytes target) (bp : Bytes predictor) (lambda : ℕ) (r : MbPlan)
      (f : PlanFound (planning_in terms book codebook lambda d target predictor) r) where
    abbrev g : Planning
    g = planning_in terms book codebook lambda d target predictor

    sound : SoundTree terms.half (tree_of r.blocks)
    sound = rw f.tree (plan_sound g (plan_ready terms book codebook copied d target predictor lambda (call_ready copied e) bt bp))

    pub call_front : FrontReady terms.half (tree_of r.blocks) (length predictor) (length copied) d (length samples)
    call_front =
        record {
          five = q.five;
          whole = q.ready.predictor;
          copy = ap length e ∙ raised-length codebook;
          room = ap length q.zeros;
          sound = sound;
        }

    take_zeros : (n m : ℕ) → n ≤ m → take {A = ℕ} n (replicate m 0) ≡ replicate n 0
    take_zeros zero m l = refl
    take_zeros (suc n) zero l = absurd (omega arith)
    take_zeros (suc n) (suc m) l = rw (take_zeros n m (omega arith))

    pub call_shown : (left : List ℕ) → Bytes codebook → FrontShown terms.half (tree_of r.blocks) predictor copied d samples left
        → PlanShown book codebook d terms target predictor lambda r left
    call_shown left bytes s =
        let few = area_most d q.five in
        let zs : take (area d) samples ≡ replicate (area d) 0 = ap (take (area d)) q.zeros ∙ take_zeros (area d) 256 few in
        record {
          found = f;
          front = s.front ∙ rw (zs, e) (rebuilt-shown codebook bytes terms.half d predictor (tree_of r.blocks) sound ∙ ap (tree_shown (vector_at codebook terms.half) d predictor) f.tree);
          behind = s.behind ∙ ap (drop (area d)) q.zeros ∙ drop_replicate (area d) 256;
        }

-- ---- the answers
pub plan_refused : (b : BlockIn) (lambda : ℕ) (r : Refusal) → number_of r ≡ block_refusal b → PlanAnswered b lambda (Err r)
unfolding plan_answer
plan_refused b lambda r e = record { answer = answer_met r (block_refusal b) (done (plan_made b lambda)) e; behind = tt; clean = tt; claimed = tt }

pub plan_answered : (b : BlockIn) (lambda : ℕ) → Bytes b.target → Bytes b.predictor → block_refusal b ≡ 0 → (terms : LeafTerms) → terms ≡ terms_of b → (p : MbPlan) (samples : List ℕ)
    → PlanShown b.book b.codebook b.level terms b.target b.predictor lambda p samples
    → PlanAnswered b lambda (Ok (record { bits = p.bits; error = p.error; blocks = p.blocks; samples = samples }))
unfolding plan_answer plan_made
plan_answered b lambda bt bp e terms et p samples s =
    let q = block_passes b e in
    let u = rw et at s in
    record {
      answer = rw (q.target, eq-eqb (block_refusal b) 0 e, u.found.tree, u.found.weighs, u.front);
      behind = rw q.target u.behind;
      clean = s.found.clean;
      claimed = plan_claimed b lambda bt bp e;
    }
