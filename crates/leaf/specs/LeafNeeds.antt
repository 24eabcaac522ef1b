-- What the leaf search may assume, and what it hands back (document 01, `svq1_enc_leaf.rs`, over the definitions of Leaf).
use Rattle.std.specs.Prelude.{◌≡◌, List, ℕ, ◌+◌, ◌*◌, ◌≤◌, length}
use Rattle.leaf.specs.declared.svq1_enc_leaf.LeafCode.{LeafCode}
use Rattle.leaf.specs.declared.svq1_enc_leaf.LeafTerms.{LeafTerms}
use Rattle.codebook.specs.Codebook.{vector_at}
use Rattle.leaf.specs.Leaf.{Leaf, Vectors, sse, leaf_shown, coded_leaf, leaf_rule, terms_at}
use Rattle.leaf.specs.LentNeeds.{Clean}
use Rattle.leaf.specs.LeafForms.{vectors_in, leaf_of}

-- a block of 1 to 256 samples, a predictor, room for sums and samples, and at most six stages, each of sixteen vectors, from `base` on
pub record SearchReady (terms : LeafTerms) (t p a out book : List ℕ) (base : ℕ) : Type 0 where
  pub few : length t ≤ 256
  pub some : 1 ≤ length t
  pub predictor : length p ≡ length t
  pub sums : length a ≡ length t
  pub shown : length out ≡ length t
  pub stages : terms.cap ≤ 6
  pub page : base + length t * 16 * terms.cap ≤ length book

-- a leaf in its one form, its error and the samples that it shows
pub record Leafed (vs : Vectors) (t p : List ℕ) (l : Leaf) (code : LeafCode) (stages : List ℕ) (error : ℕ) (out : List ℕ) : Type 0 where
  pub leaf : leaf_of code stages ≡ l
  pub erring : error ≡ sse t (leaf_shown vs p l)
  pub shown : out ≡ leaf_shown vs p l
  pub clean : Clean code stages

-- the coded leaf, and the leaf that the rules choose
abbrev pub Coding : LeafTerms → List ℕ → List ℕ → List ℕ → ℕ → LeafCode → List ℕ → ℕ → List ℕ → Type 0
Coding terms t p book base code stages error out =
    let vs = vectors_in book base (length t) in
    Leafed vs t p (coded_leaf terms vs t p) code stages error out

abbrev pub Chosen : LeafTerms → List ℕ → List ℕ → List ℕ → ℕ → LeafCode → List ℕ → ℕ → List ℕ → Type 0
Chosen terms t p book base code stages error out =
    let vs = vectors_in book base (length t) in
    Leafed vs t p (leaf_rule terms vs t p) code stages error out

-- the leaf that the rules choose at level d by the codebook as it is lent
abbrev pub LeafFound : List ℕ → LeafTerms → ℕ → List ℕ → List ℕ → LeafCode → List ℕ → ℕ → List ℕ → Type 0
LeafFound codebook terms d t p code stages error out =
    let vs = vector_at codebook terms.half d in
    Leafed vs t p (leaf_rule (terms_at d terms) vs t p) code stages error out
