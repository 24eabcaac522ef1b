-- The search of a leaf's stages: what it is asked and what it hands back (document 01, `svq1_enc_leaf.rs`; document 02, §4; over the definitions of leaf/Leaf).
use Rattle.std.specs.Prelude.{◌≡◌, List, ℕ, ◌+◌, ◌-◌, ◌*◌, ◌≤◌, length, take, drop, replicate}
use Rattle.leaf.specs.Leaf.{Vectors, sse, samples, stages, staged}
use Rattle.leaf.specs.LeafForms.{less, vectors_in}
use Rattle.leaf.specs.declared.svq1_enc_leaf.LeafTerms.{LeafTerms}
use Rattle.leaf_search.specs.declared.svq1_enc_leaf.inner.Stages.{Stages}

-- a block, its sums, each kept plus the bias, and the terms, with at most as many stages as their cap and with their margin; the stages' vectors begin at `base` in the raised codebook
pub record StageSearch : Type 0 where
  pub target : List ℕ
  pub sums : List ℕ
  pub codebook : List ℕ
  pub base : ℕ
  pub bias : ℕ
  pub terms : LeafTerms

-- its vectors, and the stages that the rules choose
abbrev pub vectors_for : StageSearch → Vectors
vectors_for q = vectors_in q.codebook q.base (length q.target)

abbrev pub stages_for : StageSearch → List ℕ
stages_for q = stages q.terms.margin (vectors_for q) q.target q.terms.cap 0 (less q.bias q.sums)

-- six indices with zeros behind the count, the error, and the sums b that it leaves, each kept plus the bias and 128 for each stage
pub record Searched (q : StageSearch) (b : List ℕ) (r : Stages) : Type 0 where
  pub indices : take r.count r.index ≡ stages_for q
  pub sums : less (q.bias + 128 * r.count) b ≡ staged (vectors_for q) 0 (less q.bias q.sums) (stages_for q)
  pub erring : r.error ≡ sse q.target (samples (less (q.bias + 128 * r.count) b))
  pub counted : r.count ≤ q.terms.cap
  pub six : length r.index ≡ 6
  pub behind : drop r.count r.index ≡ replicate (6 - r.count) 0
