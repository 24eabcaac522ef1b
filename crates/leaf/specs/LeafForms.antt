-- The unsigned numbers that the leaf search computes with, and the signed ones that they stand for: each is kept plus a bias (over the definitions of Leaf).
use Rattle.std.specs.Prelude.{◌≡◌, List, [], ◌∷◌, map, ℕ, ◌+◌, ◌*◌, ◌≤◌, ℤ, length, get_or, take, drop}
use Rattle.std.proofs.Math.IntN.{sub_ℕ}
use Rattle.bits.specs.Basics.{gap}
use Rattle.leaf.specs.Leaf.{Leaf, skip, coded, Vectors, sse, plus, samples}
use Rattle.leaf.specs.declared.svq1_enc_leaf.LeafCode.{LeafCode}
use Rattle.leaf.specs.declared.svq1_enc_leaf.LeafCode.TheVariants.{Skip, Coded}

-- the signed numbers that unsigned ones stand for
unfoldable pub less : ℕ → List ℕ → List ℤ
less b = map (λ a. sub_ℕ a b)

-- vector j of n samples from `base` on in the copy
unfoldable pub vector : List ℕ → ℕ → ℕ → ℕ → List ℤ
vector book base n j = less 128 (take n (drop (base + n * j) book))

-- the vectors of a page that begins at `base`, sixteen to a stage
unfoldable pub vectors_in : List ℕ → ℕ → ℕ → Vectors
vectors_in book base n s j = vector book (base + n * 16 * s) n j

-- the error that vector j leaves on the sums z
unfoldable pub vector_error : List ℕ → List ℤ → List ℕ → ℕ → ℕ → ℕ
vector_error t z book base j = sse t (samples (plus z (vector book base (length t) j)))

-- ---- what the functions ask and keep
-- the sum of a list
unfoldable pub sample_sum : List ℕ → ℕ
sample_sum [] = 0
sample_sum (x ∷ xs) = x + sample_sum xs

-- two lists of sums, element by element
unfoldable pub plus_n : List ℕ → List ℕ → List ℕ
plus_n [] ys = []
plus_n (x ∷ xs) [] = []
plus_n (x ∷ xs) (y ∷ ys) = (x + y) ∷ plus_n xs ys

-- the square of the distance of two samples
unfoldable pub sqd : ℕ → ℕ → ℕ
sqd a b = gap a b * gap a b

-- no element is above k
abbrev pub Below : ℕ → List ℕ → Type 0
Below k xs = (i : ℕ) → get_or xs i 0 ≤ k

-- what a stage's search may assume: a block of at most 256 samples, its sums kept plus a bias, sixteen vectors from a base on
pub record Stage (t a book : List ℕ) (base bias : ℕ) : Type 0 where
  pub few : length t ≤ 256
  pub same : length a ≡ length t
  pub low : Below 4095 a
  pub small : bias ≤ 4095
  pub room : base + length t * 16 ≤ length book

-- the leaf that a code and six stage indices mean
abbrev pub leaf_of : LeafCode → List ℕ → Leaf
leaf_of Skip js = skip
leaf_of (Coded m n) js = coded m (take n js)
