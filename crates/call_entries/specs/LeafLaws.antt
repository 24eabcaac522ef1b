-- Laws of the leaf search's answer.
-- Assumes nothing.
use Rattle.std.specs.Prelude.{ℕ, ◌-◌, ◌≡◌, List, length, take, drop, replicate, Ok, Err}
use Rattle.std.proofs.Common.{arith, length-take, take-append-drop}
use Rattle.bits.specs.Refusals.{number_of}
use Rattle.bits.specs.declared.refusal.Refusal.{Refusal}
use Rattle.leaf.specs.LeafCall.{BlockIn, leaf_answer}
use Rattle.leaf_call.specs.LeafAnswer.{LeafAnswered}
use Rattle.leaf.specs.LeafForms.{leaf_of}
use Rattle.leaf_call.specs.declared.svq1_enc_leaf.LeafAnswer.{LeafAnswer}
use Rattle.call_entries.specs.Leaf.{filled, leaf_part_of, nothing, leaf_part}

-- zeros behind a front are what they were
pub filled_back : (n : ℕ) (s : List ℕ) → length s ≡ 256 → drop n s ≡ replicate (256 - n) 0 → filled (take n s) ≡ s
filled_back n s size zeros =
    let l = length-take n s in
    let k : 256 - length (take n s) ≡ 256 - n = omega arith in
    rw (k, ← zeros) (take-append-drop n s)

-- ---- the answers
pub part_refused : (b : BlockIn) (r : Refusal) → LeafAnswered b (Err r) → nothing (number_of r) ≡ leaf_part (leaf_answer b)
part_refused b r a = rw (← a.answer)

pub part_found : (b : BlockIn) (f : LeafAnswer) → LeafAnswered b (Ok f) → length f.samples ≡ 256
    → leaf_part_of (leaf_of f.code f.stages) f.bits f.error f.samples ≡ leaf_part (leaf_answer b)
part_found b f a size = rw (← a.answer, filled_back (length b.target) f.samples size a.behind)
