-- Laws of the margin (document 02, §4): what a lesser margin drops a greater one drops, so the greater one only cuts the leaf shorter, and its error is no less.
-- Assumes nothing.
use Rattle.std.specs.Prelude.{ℕ, zero, suc, ◌+◌, ◌*◌, ◌≤◌, ◌<◌, min, ◌≡◌, refl, Bool, true, false, ◌&&◌, List, [], ◌∷◌, leb, ltb, ℤ, length, take}
use Rattle.std.proofs.Common.{ap, add-zero, arith, lt-ltb, le-ltb, ltb-true, ltb-false, leb-true, leb-false}
use Rattle.bits.specs.Basics.{pick, Bytes}
use Rattle.codebook.specs.Mean.{residual, mean_of}
use Rattle.leaf.specs.Leaf.{Leaf, skip, coded, Vectors, sse, plus, seeded, staged, samples, leaf_shown, stage_error, best_vector, stays, stages, coded_leaf, leaf_rule}
use Rattle.leaf.specs.LeafLaws.{stages-none, length_samples, bytes_samples}
use Rattle.leaf.specs.DistanceLaws.{sse_most}
use Rattle.leaf.specs.Margin.{cut_stages, cut_leaf, at_margin, leaf_error, stageless_margin, Margins}
use Rattle.leaf.specs.declared.svq1_enc_leaf.LeafTerms.{LeafTerms}

-- ---- one stage
-- at margin 0 it is enough that the error falls
pub stays_zero : (before after : ℕ) → stays 0 before after ≡ ltb after before
unfolding stays
stays_zero before after = rw (add-zero after)

-- a stage that does not stay at a margin does not at a greater one
ends_greater : (lesser margin before after : ℕ) → lesser ≤ margin → stays lesser before after ≡ false → stays margin before after ≡ false
unfolding stays
ends_greater lesser margin before after h e = le-ltb (after + margin) before (omega (arith, ltb-false (after + lesser) before e))

-- ---- stage after stage
module _ (margin : ℕ) (vs : Vectors) (t : List ℕ) (k s : ℕ) (z : List ℤ) where
  abbrev best : ℕ
  best = best_vector vs t s z

  -- one that takes more than the margin off the error, and those behind it
  pub stages_on : stage_error vs t s z best + margin < sse t (samples z) → stages margin vs t (suc k) s z ≡ best ∷ stages margin vs t k (suc s) (plus z (vs s best))
  unfolding stages stays
  stages_on h = rw (lt-ltb (stage_error vs t s z best + margin) (sse t (samples z)) h)

  -- one that does not, and none behind it
  pub stages_end : sse t (samples z) ≤ stage_error vs t s z best + margin → stages margin vs t (suc k) s z ≡ []
  unfolding stages stays
  stages_end h = rw (le-ltb (stage_error vs t s z best + margin) (sse t (samples z)) h)

-- ---- cut
-- the stages at a margin are those at a lesser one, cut
pub stages-cut : (lesser margin : ℕ) (vs : Vectors) (t : List ℕ) (k s : ℕ) (z : List ℤ) → lesser ≤ margin
    → stages margin vs t k s z ≡ cut_stages margin vs t s z (stages lesser vs t k s z)
unfolding stages cut_stages
stages-cut lesser margin vs t zero s z h = refl
stages-cut lesser margin vs t (suc k) s z h =
    let j = best_vector vs t s z in
    let y = plus z (vs s j) in
    let ends = ends_greater lesser margin (sse t (samples z)) (stage_error vs t s z j) h in
    rw (stages-cut lesser margin vs t k (suc s) y h) (go j (stages lesser vs t k (suc s) y) (stays lesser (sse t (samples z)) (stage_error vs t s z j)) ends)
  where
    go : (j : ℕ) (js : List ℕ) (q : Bool) → (q ≡ false → stays margin (sse t (samples z)) (stage_error vs t s z j) ≡ false)
        → pick (stays margin (sse t (samples z)) (stage_error vs t s z j)) (j ∷ cut_stages margin vs t (suc s) (plus z (vs s j)) js) [] ≡ cut_stages margin vs t s z (pick q (j ∷ js) [])
    go j js true ends = refl
    go j js false ends = rw (ends refl)

-- so is the coded leaf: its mean does not depend on the margin
pub coded_cut : (terms : LeafTerms) (margin : ℕ) (vs : Vectors) (t p : List ℕ) → terms.margin ≤ margin
    → coded_leaf (at_margin margin terms) vs t p ≡ cut_leaf margin vs t p (coded_leaf terms vs t p)
unfolding coded_leaf cut_leaf
coded_cut terms margin vs t p h =
    let m = mean_of terms.half (residual t p) (length t) in
    ap (coded m) (stages-cut terms.margin margin vs t terms.cap 0 (seeded m p) h)

-- stages that are cut lose only their end
cut_front : (margin : ℕ) (vs : Vectors) (t : List ℕ) (s : ℕ) (z : List ℤ) (js : List ℕ) → cut_stages margin vs t s z js ≡ take (length (cut_stages margin vs t s z js)) js
unfolding cut_stages
cut_front margin vs t s z [] = refl
cut_front margin vs t s z (j ∷ js) =
    let y = plus z (vs s j) in
    go (cut_stages margin vs t (suc s) y js) (stays margin (sse t (samples z)) (stage_error vs t s z j)) (cut_front margin vs t (suc s) y js)
  where
    go : (ks : List ℕ) (q : Bool) → ks ≡ take (length ks) js → pick q (j ∷ ks) [] ≡ take (length (pick q (j ∷ ks) [])) (j ∷ js)
    go ks true e = ap (λ (l : List ℕ). j ∷ l) e
    go ks false e = refl

-- so the stages at a margin are a front of those at a lesser one
pub stages_front : (lesser margin : ℕ) (vs : Vectors) (t : List ℕ) (k s : ℕ) (z : List ℤ) → lesser ≤ margin
    → stages margin vs t k s z ≡ take (length (stages margin vs t k s z)) (stages lesser vs t k s z)
stages_front lesser margin vs t k s z h =
    rw (stages-cut lesser margin vs t k s z h) (cut_front margin vs t s z (stages lesser vs t k s z))

-- ---- errors
-- the error that the sums z leave with the vectors js of the stages from s on
abbrev error_after : Vectors → List ℕ → ℕ → List ℤ → List ℕ → ℕ
error_after vs t s z js = sse t (samples (staged vs s z js))

-- stages take more than the margin each off the error, all together
pub stages_earned : (margin : ℕ) (vs : Vectors) (t : List ℕ) (k s : ℕ) (z : List ℤ)
    → error_after vs t s z (stages margin vs t k s z) + suc margin * length (stages margin vs t k s z) ≤ sse t (samples z)
unfolding stages staged stays stage_error
stages_earned margin vs t zero s z = omega arith
stages_earned margin vs t (suc k) s z =
    let j = best_vector vs t s z in
    let y = plus z (vs s j) in
    go j (stages margin vs t k (suc s) y) (stages_earned margin vs t k (suc s) y) (stays margin (sse t (samples z)) (stage_error vs t s z j)) refl
  where
    go : (j : ℕ) (js : List ℕ) → error_after vs t (suc s) (plus z (vs s j)) js + suc margin * length js ≤ stage_error vs t s z j
        → (q : Bool) → stays margin (sse t (samples z)) (stage_error vs t s z j) ≡ q
        → error_after vs t s z (pick q (j ∷ js) []) + suc margin * length (pick q (j ∷ js) []) ≤ sse t (samples z)
    go j js h true e = omega (arith, ltb-true (stage_error vs t s z j + margin) (sse t (samples z)) e)
    go j js h false e = omega arith

-- the error after the stages at a margin is never below that after the stages at a lesser one
pub stages_error : (lesser margin : ℕ) (vs : Vectors) (t : List ℕ) (k s : ℕ) (z : List ℤ) → lesser ≤ margin
    → error_after vs t s z (stages lesser vs t k s z) ≤ error_after vs t s z (stages margin vs t k s z)
unfolding stages staged
stages_error lesser margin vs t zero s z h = omega arith
stages_error lesser margin vs t (suc k) s z h =
    let j = best_vector vs t s z in
    let y = plus z (vs s j) in
    let before = sse t (samples z) in
    let after = stage_error vs t s z j in
    let falls = stages_earned lesser vs t (suc k) s z in
    go j (stages lesser vs t k (suc s) y) (stages margin vs t k (suc s) y) (stages_error lesser margin vs t k (suc s) y h)
    (stays lesser before after) (stays margin before after) (ends_greater lesser margin before after h) (omega arith)
  where
    go : (j : ℕ) (js ks : List ℕ) → error_after vs t (suc s) (plus z (vs s j)) js ≤ error_after vs t (suc s) (plus z (vs s j)) ks
        → (p q : Bool) → (p ≡ false → q ≡ false) → error_after vs t s z (pick p (j ∷ js) []) ≤ sse t (samples z)
        → error_after vs t s z (pick p (j ∷ js) []) ≤ error_after vs t s z (pick q (j ∷ ks) [])
    go j js ks rest true true ends falls = rest
    go j js ks rest true false ends falls = falls
    go j js ks rest false q ends falls = rw (ends refl) falls

-- so the coded leaf's error is never below
pub coded_error : (terms : LeafTerms) (margin : ℕ) (vs : Vectors) (t p : List ℕ) → terms.margin ≤ margin
    → leaf_error vs t p (coded_leaf terms vs t p) ≤ leaf_error vs t p (coded_leaf (at_margin margin terms) vs t p)
unfolding coded_leaf leaf_shown
coded_error terms margin vs t p h =
    let m = mean_of terms.half (residual t p) (length t) in
    stages_error terms.margin margin vs t terms.cap 0 (seeded m p) h

-- where skip is allowed the leaf chosen leaves the smaller of the two errors, else the coded leaf's
chosen_error : (vs : Vectors) (t p : List ℕ) (allowed : Bool) (l : Leaf)
    → leaf_error vs t p (pick (allowed && leb (sse t p) (leaf_error vs t p l)) skip l) ≡ pick allowed (min (sse t p) (leaf_error vs t p l)) (leaf_error vs t p l)
unfolding leaf_shown
chosen_error vs t p false l = refl
chosen_error vs t p true l = go (leb (sse t p) (leaf_error vs t p l)) refl
  where
    go : (q : Bool) → leb (sse t p) (leaf_error vs t p l) ≡ q → leaf_error vs t p (pick q skip l) ≡ min (sse t p) (leaf_error vs t p l)
    go true e = omega (arith, leb-true (sse t p) (leaf_error vs t p l) e)
    go false e = omega (arith, leb-false (sse t p) (leaf_error vs t p l) e)

-- nor is that of the leaf chosen: skip's error is the same at every margin
pub rule_error : (terms : LeafTerms) (margin : ℕ) (vs : Vectors) (t p : List ℕ) → terms.margin ≤ margin
    → leaf_error vs t p (leaf_rule terms vs t p) ≤ leaf_error vs t p (leaf_rule (at_margin margin terms) vs t p)
unfolding leaf_rule
rule_error terms margin vs t p h =
    let c = coded_leaf terms vs t p in
    let d = coded_leaf (at_margin margin terms) vs t p in
    rw (chosen_error vs t p terms.skip c, chosen_error vs t p terms.skip d) (go terms.skip (leaf_error vs t p c) (leaf_error vs t p d) (coded_error terms margin vs t p h))
  where
    go : (allowed : Bool) (a b : ℕ) → a ≤ b → pick allowed (min (sse t p) a) a ≤ pick allowed (min (sse t p) b) b
    go true a b i = omega arith
    go false a b i = i

-- ---- no stage
-- no block of 256 samples has an error above 256 × 255 × 255, so no stage takes more than that off it
pub stages_stageless : (margin : ℕ) (vs : Vectors) (t : List ℕ) (k s : ℕ) (z : List ℤ) → Bytes t → length z ≤ 256 → stageless_margin ≤ margin → stages margin vs t k s z ≡ []
stages_stageless margin vs t k s z bytes few h =
    stages-none margin vs t k s z (omega (arith, sse_most t (samples z) bytes (bytes_samples z), length_samples z))

-- ---- what Margin states
pub margins : Margins
margins =
    record {
      goes_on = stages_on;
      ends = stages_end;
      old_rule = stays_zero;
      cut = coded_cut;
      front = stages_front;
      coded_error = coded_error;
      error = rule_error;
      earned = stages_earned;
      none_stays = stages_stageless;
    }
