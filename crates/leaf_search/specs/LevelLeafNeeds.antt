-- The search of one leaf at a level: what it asks and what it leaves (document 01, `svq1_enc_leaf.rs`).
use Rattle.std.specs.Prelude.{ℕ, ◌≤◌, ◌≡◌, List, length, take, drop}
use Rattle.book.specs.Level.{area}
use Rattle.leaf.specs.Leaf.{terms_at}
use Rattle.leaf.specs.LeafNeeds.{Chosen}
use Rattle.codebook.specs.CodebookForms.{page_start}
use Rattle.book.specs.Book.{codebook_bytes}
use Rattle.leaf.specs.declared.svq1_enc_leaf.LeafTerms.{LeafTerms}
use Rattle.leaf_search.specs.declared.svq1_enc_leaf.LeafChoice.{LeafChoice}

-- what the search of one leaf in the raised codebook asks, with room for 256 sums and samples
pub record LevelReady (terms : LeafTerms) (d : ℕ) (t p a out raised : List ℕ) : Type 0 where
  pub level : d ≤ 5
  pub target : length t ≡ area d
  pub predictor : length p ≡ area d
  pub sums : length a ≡ 256
  pub samples : length out ≡ 256
  pub copy : length raised ≡ codebook_bytes
  pub stages : terms.cap ≤ 6

-- and what it leaves: the leaf's samples at the front, and what was behind them
pub record LevelChosen (terms : LeafTerms) (d : ℕ) (t p raised : List ℕ) (r : LeafChoice) (out left : List ℕ) : Type 0 where
  pub chosen : Chosen (terms_at d terms) t p raised (page_start terms.half d) r.code r.stages r.error (take (length t) left)
  pub behind : drop (length t) left ≡ drop (length t) out
