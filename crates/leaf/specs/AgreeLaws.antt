-- The leaf rules look at no vector behind the stages that are open: where two sets of vectors agree on those, the rules choose the same leaf.
-- So a leaf that the search found in the raised codebook is the leaf by the codebook itself.
-- Assumes nothing.
use Rattle.std.specs.Prelude.{◌≡◌, Bool, ◌&&◌, ℤ, length}
use Rattle.std.proofs.Math.Path.{refl, ap}
use Rattle.std.proofs.Common.{sym, ◌∙◌, lt-ltb, le-ltb}
use mathlib.Core.List.{List, [], ◌∷◌}
use Rattle.std.proofs.Math.Bool.{true, false}
use Prim.Native.Nat.{ℕ, zero, suc, ◌+◌, ◌*◌, ◌≤◌, ◌<◌}
use native.Mathlib.Omega.{arith}
use Rattle.std.proofs.Math.Decide.{dec_lt}
use Rattle.std.proofs.Math.Dec.{leb}
use Rattle.bits.specs.Basics.{pick, Bytes}
use Rattle.book.specs.Book.{codebook_bytes}
use Rattle.book.specs.Level.{area}
use Rattle.book.specs.declared.svq1_vlc.Svq1Half.{Svq1Half}
use Rattle.book.specs.declared.svq1_vlc.Svq1Half.TheVariants.{Intra, Inter}
use Rattle.codebook.specs.Codebook.{page_offset, vector_at}
use Rattle.codebook.specs.Mean.{residual, mean_of}
use Rattle.leaf.specs.Leaf.{skip, coded, Vectors, sse, plus, seeded, staged, samples, leaf_shown, argmin, stage_error, best_vector, stages, coded_leaf, leaf_rule, cap_at, terms_at}
use Rattle.leaf.specs.LeafLaws.{Small, argmin_le, stages_few, stages_small}
use Rattle.leaf.specs.LeafForms.{vectors_in}
use Rattle.codebook.specs.CodebookForms.{raised_codebook, page_start}
use Rattle.leaf.specs.PagesLaws.{vectors_raised}
use Rattle.leaf.specs.LeafNeeds.{Chosen, LeafFound}
use Rattle.leaf.specs.declared.svq1_enc_leaf.LeafCode.{LeafCode}
use Rattle.leaf.specs.declared.svq1_enc_leaf.LeafTerms.{LeafTerms}

-- the same sixteen vectors in each of the first n stages
abbrev pub VectorsAgree : ℕ → Vectors → Vectors → Type 0
VectorsAgree n vs ws = (s j : ℕ) → s < n → j < 16 → vs s j ≡ ws s j

argmin-same : (f g : ℕ → ℕ) (k : ℕ) → ((j : ℕ) → j ≤ k → f j ≡ g j) → argmin f k ≡ argmin g k
unfolding argmin
argmin-same f g zero h = refl
argmin-same f g (suc k) h =
    let e = argmin-same f g k (λ j l. h j (omega arith)) in
    rw (e, h (suc k) (omega arith), h (argmin g k) (omega (arith, argmin_le g k)))

module _ (n : ℕ) (vs ws : Vectors) (same : VectorsAgree n vs ws) where
  error_same : (t : List ℕ) (s : ℕ) (z : List ℤ) (j : ℕ) → s < n → j < 16 → stage_error vs t s z j ≡ stage_error ws t s z j
  unfolding stage_error
  error_same t s z j h l = rw (same s j h l)

  best_same : (t : List ℕ) (s : ℕ) (z : List ℤ) → s < n → best_vector vs t s z ≡ best_vector ws t s z
  unfolding best_vector
  best_same t s z h = argmin-same (stage_error vs t s z) (stage_error ws t s z) 15 (λ j l. error_same t s z j h (omega arith))

  best_small : (t : List ℕ) (s : ℕ) (z : List ℤ) → best_vector ws t s z < 16
  unfolding best_vector
  best_small t s z = omega (arith, argmin_le (stage_error ws t s z) 15)

  pub stages-same : (margin : ℕ) (t : List ℕ) (k s : ℕ) (z : List ℤ) → s + k ≤ n → stages margin vs t k s z ≡ stages margin ws t k s z
  unfolding stages
  stages-same margin t zero s z h = refl
  stages-same margin t (suc k) s z h =
      let j = best_vector ws t s z in
      let l : s < n = omega arith in
      let m = best_small t s z in
      rw (best_same t s z l, error_same t s z j l m, same s j l m, stages-same margin t k (suc s) (plus z (ws s j)) (omega arith))

  pub staged-same : (js : List ℕ) (s : ℕ) (z : List ℤ) → s + length js ≤ n → Small js → staged vs s z js ≡ staged ws s z js
  unfolding staged
  staged-same [] s z h m = refl
  staged-same (j ∷ js) s z h m =
      rw (same s j (omega arith) (m 0)) (staged-same js (suc s) (plus z (ws s j)) (omega arith) (λ i. m (suc i)))

  skip_same : (p : List ℕ) → leaf_shown vs p skip ≡ leaf_shown ws p skip
  unfolding leaf_shown
  skip_same p = refl

  -- what a leaf of at most n stages shows
  pub shown-same : (p : List ℕ) (m : ℤ) (js : List ℕ) → length js ≤ n → Small js → leaf_shown vs p (coded m js) ≡ leaf_shown ws p (coded m js)
  unfolding leaf_shown
  shown-same p m js h l = ap samples (staged-same js 0 (seeded m p) (omega arith) l)

module _ (terms : LeafTerms) (vs ws : Vectors) (same : VectorsAgree terms.cap vs ws) (t p : List ℕ) where
  abbrev n : ℕ
  n = terms.cap

  pub coded_same : coded_leaf terms vs t p ≡ coded_leaf terms ws t p
  unfolding coded_leaf
  coded_same =
      let m = mean_of terms.half (residual t p) (length t) in
      ap (coded m) (stages-same n vs ws same terms.margin t n 0 (seeded m p) (omega arith))

  pub coded_shown_same : leaf_shown vs p (coded_leaf terms vs t p) ≡ leaf_shown ws p (coded_leaf terms ws t p)
  unfolding coded_leaf
  coded_shown_same =
      let m = mean_of terms.half (residual t p) (length t) in
      ap (leaf_shown vs p) coded_same
      ∙ shown-same n vs ws same p m (stages terms.margin ws t n 0 (seeded m p)) (stages_few terms.margin ws t n 0 (seeded m p)) (stages_small terms.margin ws t n 0 (seeded m p))

  -- the leaf that the rules choose, and what it shows
  pub rule_same : leaf_rule terms vs t p ≡ leaf_rule terms ws t p
  unfolding leaf_rule
  rule_same = rw (coded_shown_same, coded_same)

  pub rule_shown_same : leaf_shown vs p (leaf_rule terms vs t p) ≡ leaf_shown ws p (leaf_rule terms ws t p)
  unfolding leaf_rule
  rule_shown_same =
      rw coded_shown_same (go (terms.skip && leb (sse t p) (sse t (leaf_shown ws p (coded_leaf terms ws t p)))))
    where
      go : (b : Bool) → leaf_shown vs p (pick b skip (coded_leaf terms vs t p)) ≡ leaf_shown ws p (pick b skip (coded_leaf terms ws t p))
      go true = skip_same n vs ws same p
      go false = coded_shown_same

-- ---- the raised codebook
-- a level's open stages hold the same vectors in the codebook and in its copy; at L4 and L5 no stage is open
pub page_agrees : (codebook : List ℕ) → Bytes codebook → (h : Svq1Half) (d cap : ℕ) → cap ≤ 6
    → VectorsAgree (cap_at d cap) (vectors_in (raised_codebook codebook) (page_start h d) (area d)) (vector_at codebook h d)
page_agrees codebook bytes h d cap most = go (dec_lt d 4)
  where
    go : Dec (d < 4) → VectorsAgree (cap_at d cap) (vectors_in (raised_codebook codebook) (page_start h d) (area d)) (vector_at codebook h d)
    go (yes l) = rw (lt-ltb d 4 l) (λ s j a b. sym (vectors_raised codebook bytes h d s j l (omega arith) b))
    go (no l) = rw (le-ltb d 4 (omega arith)) (λ s j a b. absurd (omega arith))

-- the open stages lie in the copy
pub page_room : (h : Svq1Half) (d cap : ℕ) → cap ≤ 6 → page_start h d + area d * 16 * cap_at d cap ≤ codebook_bytes
unfolding page_offset
page_room Intra zero cap most = omega arith
page_room Intra (suc zero) cap most = omega arith
page_room Intra (suc (suc zero)) cap most = omega arith
page_room Intra (suc (suc (suc zero))) cap most = omega arith
page_room Inter zero cap most = omega arith
page_room Inter (suc zero) cap most = omega arith
page_room Inter (suc (suc zero)) cap most = omega arith
page_room Inter (suc (suc (suc zero))) cap most = omega arith
page_room h (suc (suc (suc (suc d)))) cap most = rw (le-ltb (suc (suc (suc (suc d)))) 4 (omega arith)) (omega arith)

-- A LEAF FOUND in the copy is the leaf by the codebook
pub leaf_found : (codebook : List ℕ) → Bytes codebook → (terms : LeafTerms) (d : ℕ) (t p : List ℕ) (code : LeafCode) (js : List ℕ) (e : ℕ) (out : List ℕ)
    → terms.cap ≤ 6 → length t ≡ area d → Chosen (terms_at d terms) t p (raised_codebook codebook) (page_start terms.half d) code js e out
    → LeafFound codebook terms d t p code js e out
leaf_found codebook bytes terms d t p code js e out most size c =
    let vs = vectors_in (raised_codebook codebook) (page_start terms.half d) (length t) in
    let ws = vector_at codebook terms.half d in
    let same : VectorsAgree (cap_at d terms.cap) vs ws = rw size (page_agrees codebook bytes terms.half d terms.cap most) in
    let shown = rule_shown_same (terms_at d terms) vs ws same t p in
    record {
      leaf = c.leaf ∙ rule_same (terms_at d terms) vs ws same t p;
      erring = c.erring ∙ ap (sse t) shown;
      shown = c.shown ∙ shown;
      clean = c.clean;
    }
