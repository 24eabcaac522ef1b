-- Laws of the leaf rules: the leaf that the search chooses may stand at its level, and shows as many samples as its block has.
-- Assumes nothing.
use Rattle.std.specs.Prelude.{◌≡◌, Bool, ◌&&◌, leb, ltb, ℤ, pos, negsuc, get_or}
use Rattle.std.proofs.Math.Path.{refl}
use Rattle.std.proofs.Common.{sym, ap, ◌∙◌, lt-ltb, le-ltb}
use Rattle.std.proofs.Math.Bool.{true, false}
use mathlib.Core.List.{List, [], ◌∷◌}
use Prim.Native.Nat.{ℕ, zero, suc, ◌+◌, ◌-◌, ◌≤◌, ◌<◌, min}
use native.Mathlib.Omega.{arith}
use Rattle.std.proofs.Math.Decide.{dec_lt}
use Rattle.std.proofs.Math.ListN.{length}
use Rattle.std.proofs.lemmas.List.{length-map}
use Rattle.bits.specs.Basics.{pick, Bytes}
use Rattle.bits.specs.BasicsLaws.{length_values}
use Rattle.book.specs.Book.{Tables}
use Rattle.book.specs.BookLaws.{means}
use Rattle.book.specs.Level.{area}
use Rattle.book.specs.declared.svq1_vlc.Svq1Half.{Svq1Half}
use Rattle.book.specs.declared.svq1_vlc.Svq1Half.TheVariants.{Intra, Inter}
use Rattle.codebook.specs.Codebook.{vector_at}
use Rattle.codebook.specs.Mean.{residual, rounded, clamp_mean, mean_of, mean_position, mean_at, saturate}
use Rattle.leaf.specs.Leaf.{Leaf, skip, coded, Vectors, sse, plus, seeded, staged, samples, leaf_shown, argmin, stage_error, best_vector, stays, stages, coded_leaf, leaf_rule, cap_at, terms_at}
use Rattle.leaf.specs.LeafBitsLaws.{AllowedLeaf}
use Rattle.leaf.specs.declared.svq1_enc_leaf.LeafTerms.{LeafTerms}

-- ---- where the error is within the margin already no stage stays
pub stages-none : (margin : ℕ) (vs : Vectors) (t : List ℕ) (k s : ℕ) (z : List ℤ) → sse t (samples z) ≤ margin → stages margin vs t k s z ≡ []
unfolding stages stays
stages-none margin vs t zero s z h = refl
stages-none margin vs t (suc k) s z h =
    let j = best_vector vs t s z in
    rw (le-ltb (stage_error vs t s z j + margin) (sse t (samples z)) (omega arith))

-- so a block that its mean meets exactly is coded by the mean alone
pub coded_exact : (terms : LeafTerms) (vs : Vectors) (t p : List ℕ) (m : ℤ) → mean_of terms.half (residual t p) (length t) ≡ m → sse t (samples (seeded m p)) ≡ 0
    → coded_leaf terms vs t p ≡ coded m []
unfolding coded_leaf
coded_exact terms vs t p m e z = rw (e, stages-none terms.margin vs t terms.cap 0 (seeded m p) (omega (arith, z)))

-- ---- the stages chosen
pick_le : (q : Bool) (a b k : ℕ) → a ≤ k → b ≤ k → pick q a b ≤ k
pick_le true a b k h l = h
pick_le false a b k h l = l

pub argmin_le : (f : ℕ → ℕ) (k : ℕ) → argmin f k ≤ k
unfolding argmin
argmin_le f zero = omega arith
argmin_le f (suc k) =
    let h = argmin_le f k in
    pick_le (ltb (f (suc k)) (f (argmin f k))) (suc k) (argmin f k) (suc k) (omega arith) (omega arith)

-- every index is below 16
abbrev pub Small : List ℕ → Type 0
Small js = (i : ℕ) → get_or js i 0 < 16

small_nil : Small []
small_nil i = omega arith

small_cons : (j : ℕ) (js : List ℕ) → j < 16 → Small js → Small (j ∷ js)
small_cons j js h s zero = h
small_cons j js h s (suc i) = s i

module _ (margin : ℕ) (vs : Vectors) (t : List ℕ) where
  pub stages_few : (k s : ℕ) (z : List ℤ) → length (stages margin vs t k s z) ≤ k
  unfolding stages
  stages_few zero s z = omega arith
  stages_few (suc k) s z =
      let j = best_vector vs t s z in
      go (stays margin (sse t (samples z)) (stage_error vs t s z j)) j (stages margin vs t k (suc s) (plus z (vs s j))) (stages_few k (suc s) (plus z (vs s j)))
    where
      go : (q : Bool) (j : ℕ) (js : List ℕ) → length js ≤ k → length (pick q (j ∷ js) []) ≤ suc k
      go true j js h = omega arith
      go false j js h = omega arith

  best_small : (s : ℕ) (z : List ℤ) → best_vector vs t s z < 16
  unfolding best_vector
  best_small s z = omega (arith, argmin_le (stage_error vs t s z) 15)

  pub stages_small : (k s : ℕ) (z : List ℤ) → Small (stages margin vs t k s z)
  unfolding stages
  stages_small zero s z = small_nil
  stages_small (suc k) s z =
      let j = best_vector vs t s z in
      go (stays margin (sse t (samples z)) (stage_error vs t s z j)) j (stages margin vs t k (suc s) (plus z (vs s j))) (best_small s z) (stages_small k (suc s) (plus z (vs s j)))
    where
      go : (q : Bool) (j : ℕ) (js : List ℕ) → j < 16 → Small js → Small (pick q (j ∷ js) [])
      go true j js h r = small_cons j js h r
      go false j js h r = small_nil

-- ---- the mean is one of its table's
clamp_place : (h : Svq1Half) (z : ℤ) → mean_position h (clamp_mean h z) < means h
unfolding clamp_mean
clamp_place Intra (pos m) = omega arith
clamp_place Intra (negsuc m) = omega arith
clamp_place Inter (pos m) = omega arith
clamp_place Inter (negsuc m) = rw (le-ltb 256 (suc (min 255 m)) (omega arith)) (omega arith)

clamp_back : (h : Svq1Half) (z : ℤ) → mean_at h (mean_position h (clamp_mean h z)) ≡ clamp_mean h z
unfolding clamp_mean
clamp_back Intra (pos m) = refl
clamp_back Intra (negsuc m) = refl
clamp_back Inter (pos m) = rw (le-ltb (min 255 m + 256) 256 (omega arith)) (ap pos (omega arith))
clamp_back Inter (negsuc m) =
    rw (le-ltb 256 (suc (min 255 m)) (omega arith), lt-ltb (256 - suc (min 255 m)) 256 (omega arith)) (ap negsuc (omega arith))

-- ---- what is chosen may stand at its level
capped : (d cap : ℕ) → cap ≤ 6 → (cap_at d cap ≤ 6) × (4 ≤ d → cap_at d cap ≡ 0)
capped d cap h =
    elim (dec_lt d 4)
    [ yes a ↦ (rw (lt-ltb d 4 a) h, λ b. absurd (omega arith)) | no a ↦ (rw (le-ltb d 4 (omega arith)) (omega arith), λ b. rw (le-ltb d 4 b)) ]

-- by tables of the terms' half
module _ (T : Tables) (vs : Vectors) (d : ℕ) (terms : LeafTerms) (t p : List ℕ) (same : T.half ≡ terms.half) (most : terms.cap ≤ 6) where
  pub coded_allowed : AllowedLeaf T d (coded_leaf (terms_at d terms) vs t p)
  unfolding coded_leaf mean_of
  coded_allowed =
      let z = rounded (residual t p) (length t) in
      let m = clamp_mean terms.half z in
      let n = cap_at d terms.cap in
      let c = capped d terms.cap most in
      let few = stages_few terms.margin vs t n 0 (seeded m p) in
      record {
        place = rw same (clamp_place terms.half z);
        back = rw same (clamp_back terms.half z);
        few = omega (arith, c.0);
        bare = λ b. let e = c.1 b in omega arith;
        small = stages_small terms.margin vs t n 0 (seeded m p);
      }

  pub rule_allowed : (terms.skip ≡ true → terms.half ≡ Inter) → AllowedLeaf T d (leaf_rule (terms_at d terms) vs t p)
  unfolding leaf_rule
  rule_allowed o = go terms.skip (leb (sse t p) (sse t (leaf_shown vs p (coded_leaf (terms_at d terms) vs t p)))) o
    where
      go : (f q : Bool) → (f ≡ true → terms.half ≡ Inter) → AllowedLeaf T d (pick (f && q) skip (coded_leaf (terms_at d terms) vs t p))
      go true true o = same ∙ o refl
      go true false o = coded_allowed
      go false q o = coded_allowed

-- ---- as many samples as the block has, all of them bytes
-- every vector has n samples
abbrev pub SizedVectors : Vectors → ℕ → Type 0
SizedVectors vs n = (s j : ℕ) → length (vs s j) ≡ n

pub vectors_sized : (codebook : List ℕ) (h : Svq1Half) (d : ℕ) → SizedVectors (vector_at codebook h d) (area d)
unfolding vector_at
vectors_sized codebook h d s j = length_values _ (area d) 0

pub length_plus : (xs ys : List ℤ) → length xs ≡ length ys → length (plus xs ys) ≡ length xs
unfolding plus
length_plus [] ys e = refl
length_plus (x ∷ xs) [] e = absurd (omega arith)
length_plus (x ∷ xs) (y ∷ ys) e = ap suc (length_plus xs ys (omega arith))

pub length_staged : (vs : Vectors) (n s : ℕ) (z : List ℤ) (js : List ℕ) → SizedVectors vs n → length z ≡ n → length (staged vs s z js) ≡ n
unfolding staged
length_staged vs n s z [] f e = e
length_staged vs n s z (j ∷ js) f e =
    length_staged vs n (suc s) (plus z (vs s j)) js f (length_plus z (vs s j) (e ∙ sym (f s j)) ∙ e)

pub length_samples : (z : List ℤ) → length (samples z) ≡ length z
unfolding samples
length_samples z = length-map z saturate

pub length_seeded : (m : ℤ) (p : List ℕ) → length (seeded m p) ≡ length p
unfolding seeded
length_seeded m p = length-map p _

pub length_shown : (vs : Vectors) (p : List ℕ) (l : Leaf) → SizedVectors vs (length p) → length (leaf_shown vs p l) ≡ length p
unfolding leaf_shown
length_shown vs p skip f = refl
length_shown vs p (coded m js) f =
    length_samples (staged vs 0 (seeded m p) js) ∙ length_staged vs (length p) 0 (seeded m p) js f (length_seeded m p)

pub saturate_byte : (z : ℤ) → saturate z < 256
unfolding saturate
saturate_byte (pos n) = omega arith
saturate_byte (negsuc n) = omega arith

pub bytes_samples : (z : List ℤ) → Bytes (samples z)
unfolding samples
bytes_samples [] k = omega arith
bytes_samples (x ∷ z) zero = saturate_byte x
bytes_samples (x ∷ z) (suc k) = bytes_samples z k

pub bytes_shown : (vs : Vectors) (p : List ℕ) (l : Leaf) → Bytes p → Bytes (leaf_shown vs p l)
unfolding leaf_shown
bytes_shown vs p skip b = b
bytes_shown vs p (coded m js) b = bytes_samples (staged vs 0 (seeded m p) js)
