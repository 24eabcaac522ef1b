-- What a margin makes of a leaf (document 02, §4), stated over the rules of Leaf; MarginLaws proves it.
use Rattle.std.specs.Prelude.{ℕ, suc, ◌+◌, ◌*◌, ◌≤◌, ◌<◌, ◌≡◌, List, [], ◌∷◌, ltb, ℤ, length, take}
use Rattle.bits.specs.Basics.{pick, Bytes}
use Rattle.leaf.specs.Leaf.{Leaf, skip, coded, Vectors, sse, plus, seeded, staged, samples, leaf_shown, stage_error, best_vector, stays, stages, coded_leaf, leaf_rule}
use Rattle.leaf.specs.declared.svq1_enc_leaf.LeafTerms.{LeafTerms}

-- stages from s on, on the sums z, cut before the first that does not stay at the margin
unfoldable pub cut_stages : ℕ → Vectors → List ℕ → ℕ → List ℤ → List ℕ → List ℕ
cut_stages margin vs t s z [] = []
cut_stages margin vs t s z (j ∷ js) = pick (stays margin (sse t (samples z)) (stage_error vs t s z j)) (j ∷ cut_stages margin vs t (suc s) (plus z (vs s j)) js) []

-- a leaf so cut; skip has no stages
unfoldable pub cut_leaf : ℕ → Vectors → List ℕ → List ℕ → Leaf → Leaf
cut_leaf margin vs t p skip = skip
cut_leaf margin vs t p (coded m js) = coded m (cut_stages margin vs t 0 (seeded m p) js)

-- the same terms at another margin
abbrev pub at_margin : ℕ → LeafTerms → LeafTerms
at_margin margin terms = record { half = terms.half; cap = terms.cap; skip = terms.skip; margin = margin }

-- the error that a leaf leaves
abbrev pub leaf_error : Vectors → List ℕ → List ℕ → Leaf → ℕ
leaf_error vs t p l = sse t (leaf_shown vs p l)

-- from this margin on no stage of a block of 256 samples or fewer stays: 256 × 255 × 255, which 32 bits hold
abbrev pub stageless_margin : ℕ
stageless_margin = 16646400

pub record Margins : Type 0 where
  -- a stage whose best vector takes more than the margin off the error stays, and the search goes on behind it
  pub goes_on : (margin : ℕ) (vs : Vectors) (t : List ℕ) (k s : ℕ) (z : List ℤ) → stage_error vs t s z (best_vector vs t s z) + margin < sse t (samples z)
      → stages margin vs t (suc k) s z ≡ best_vector vs t s z ∷ stages margin vs t k (suc s) (plus z (vs s (best_vector vs t s z)))
  -- the first that does not ends the leaf
  pub ends : (margin : ℕ) (vs : Vectors) (t : List ℕ) (k s : ℕ) (z : List ℤ) → sse t (samples z) ≤ stage_error vs t s z (best_vector vs t s z) + margin
      → stages margin vs t (suc k) s z ≡ []
  -- at margin 0 a stage stays where the error strictly falls, which is the rule of document 01
  pub old_rule : (before after : ℕ) → stays 0 before after ≡ ltb after before
  -- the coded leaf at a margin is that at any lesser one, 0 among them, cut before the first stage that does not stay
  pub cut : (terms : LeafTerms) (margin : ℕ) (vs : Vectors) (t p : List ℕ) → terms.margin ≤ margin
      → coded_leaf (at_margin margin terms) vs t p ≡ cut_leaf margin vs t p (coded_leaf terms vs t p)
  -- what is left of the stages is their front
  pub front : (lesser margin : ℕ) (vs : Vectors) (t : List ℕ) (k s : ℕ) (z : List ℤ) → lesser ≤ margin
      → stages margin vs t k s z ≡ take (length (stages margin vs t k s z)) (stages lesser vs t k s z)
  -- the cut leaf's error is never below, nor is that of the leaf chosen between it and skip
  pub coded_error : (terms : LeafTerms) (margin : ℕ) (vs : Vectors) (t p : List ℕ) → terms.margin ≤ margin
      → leaf_error vs t p (coded_leaf terms vs t p) ≤ leaf_error vs t p (coded_leaf (at_margin margin terms) vs t p)
  pub error : (terms : LeafTerms) (margin : ℕ) (vs : Vectors) (t p : List ℕ) → terms.margin ≤ margin
      → leaf_error vs t p (leaf_rule terms vs t p) ≤ leaf_error vs t p (leaf_rule (at_margin margin terms) vs t p)
  -- so many stages together take more than so many times the margin off the error
  pub earned : (margin : ℕ) (vs : Vectors) (t : List ℕ) (k s : ℕ) (z : List ℤ)
      → sse t (samples (staged vs s z (stages margin vs t k s z))) + suc margin * length (stages margin vs t k s z) ≤ sse t (samples z)
  -- a margin as large as any error of a block keeps no stage, so 2^32 - 1 keeps none
  pub none_stays : (margin : ℕ) (vs : Vectors) (t : List ℕ) (k s : ℕ) (z : List ℤ) → Bytes t → length z ≤ 256 → stageless_margin ≤ margin → stages margin vs t k s z ≡ []
