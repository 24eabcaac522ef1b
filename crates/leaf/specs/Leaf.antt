-- The leaf rules: what a leaf shows, and which leaf the search chooses (document 01, `svq1_enc_leaf.rs` and "Reading"; document 02, §4).
use Rattle.std.specs.Prelude.{ℕ, zero, suc, ◌+◌, ◌*◌, Bool, ◌&&◌, List, [], ◌∷◌, map, leb, ltb, length, ℤ, pos, ◌+ℤ◌}
use Rattle.bits.specs.Basics.{pick, gap}
use Rattle.codebook.specs.Mean.{residual, mean_of, saturate}
use Rattle.leaf.specs.declared.svq1_enc_leaf.LeafTerms.{LeafTerms}

-- skip, or a mean and the indices of its stages' vectors
pub data Leaf : Type 0 where
  skip : Leaf
  coded : ℤ → List ℕ → Leaf

-- a level's vectors by stage and index
abbrev pub Vectors : Type 0
Vectors = ℕ → ℕ → List ℤ

-- the squared distance of two runs of samples
unfoldable pub sse : List ℕ → List ℕ → ℕ
sse [] ys = 0
sse (x ∷ xs) [] = 0
sse (x ∷ xs) (y ∷ ys) = gap x y * gap x y + sse xs ys

-- ---- what a leaf shows
-- two runs of sums, sample by sample
unfoldable pub plus : List ℤ → List ℤ → List ℤ
plus [] ys = []
plus (x ∷ xs) [] = []
plus (x ∷ xs) (y ∷ ys) = (x +ℤ y) ∷ plus xs ys

-- predictor + mean
unfoldable pub seeded : ℤ → List ℕ → List ℤ
seeded m p = map (λ x. pos x +ℤ m) p

-- the sums z with the vectors js of the stages from s on
unfoldable pub staged : Vectors → ℕ → List ℤ → List ℕ → List ℤ
staged vs s z [] = z
staged vs s z (j ∷ js) = staged vs (suc s) (plus z (vs s j)) js

-- sums as samples, each clamped once
unfoldable pub samples : List ℤ → List ℕ
samples z = map saturate z

-- over the predictor p: skip shows p itself, a coded leaf predictor + mean + vectors
unfoldable pub leaf_shown : Vectors → List ℕ → Leaf → List ℕ
leaf_shown vs p skip = p
leaf_shown vs p (coded m js) = samples (staged vs 0 (seeded m p) js)

-- ---- which leaf is chosen
-- the first of 0..k at which f is least
unfoldable pub argmin : (ℕ → ℕ) → ℕ → ℕ
argmin f zero = 0
argmin f (suc k) = pick (ltb (f (suc k)) (f (argmin f k))) (suc k) (argmin f k)

-- the error that vector j of stage s leaves on the sums z
unfoldable pub stage_error : Vectors → List ℕ → ℕ → List ℤ → ℕ → ℕ
stage_error vs t s z j = sse t (samples (plus z (vs s j)))

-- the first vector of the stage's sixteen that leaves the least error
unfoldable pub best_vector : Vectors → List ℕ → ℕ → List ℤ → ℕ
best_vector vs t s z = argmin (stage_error vs t s z) 15

-- a stage stays where the error before it is greater than the error after it plus the margin (document 02, §4); the numbers have no bound, so no sum wraps
unfoldable pub stays : ℕ → ℕ → ℕ → Bool
stays margin before after = ltb (after + margin) before

-- the stages' indices, at most k of them from stage s on: the first stage that does not stay ends the leaf
unfoldable pub stages : ℕ → Vectors → List ℕ → ℕ → ℕ → List ℤ → List ℕ
stages margin vs t zero s z = []
stages margin vs t (suc k) s z =
    let j = best_vector vs t s z in
    pick (stays margin (sse t (samples z)) (stage_error vs t s z j)) (j ∷ stages margin vs t k (suc s) (plus z (vs s j))) []

-- the coded leaf for the target t over the predictor p: a mean of the terms' half, and at most as many stages as their cap, each of which earns their margin
unfoldable pub coded_leaf : LeafTerms → Vectors → List ℕ → List ℕ → Leaf
coded_leaf terms vs t p =
    let m = mean_of terms.half (residual t p) (length t) in
    coded m (stages terms.margin vs t terms.cap 0 (seeded m p))

-- the choice: skip, where it is allowed and its error is no larger, else the coded leaf
unfoldable pub leaf_rule : LeafTerms → Vectors → List ℕ → List ℕ → Leaf
leaf_rule terms vs t p =
    let c = coded_leaf terms vs t p in
    pick (terms.skip && leb (sse t p) (sse t (leaf_shown vs p c))) skip c

-- L4 and L5 use no stages: the cap and the terms at level d
abbrev pub cap_at : ℕ → ℕ → ℕ
cap_at d cap = pick (ltb d 4) cap 0

abbrev pub terms_at : ℕ → LeafTerms → LeafTerms
terms_at d terms = record { half = terms.half; cap = cap_at d terms.cap; skip = terms.skip; margin = terms.margin }
