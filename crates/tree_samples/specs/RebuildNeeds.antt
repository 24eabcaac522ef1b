-- What the reconstruction of a tree asks and leaves; leaves are shown by the raised codebook (document 01, `svq1_enc_tree.rs`: `plan_reconstruction`).
use Rattle.std.specs.Prelude.{◌≡◌, List, ℕ, ◌≤◌, ◌<◌, get_or}
use Rattle.book.specs.Book.{codebook_bytes}
use Rattle.book.specs.Level.{area}
use Rattle.book.specs.declared.svq1_vlc.Svq1Half.{Svq1Half}
use Rattle.codebook.specs.CodebookForms.{page_start}
use Rattle.leaf.specs.Leaf.{Leaf, Vectors}
use Rattle.leaf.specs.LeafForms.{vectors_in}
use Rattle.tree.specs.Blocks.{block_count, level, rebuilt}
use Rattle.tree.specs.GeometryLaws.{In}
use Rattle.tree.specs.Plan.{shown_at}
use Rattle.tree.specs.TreeBits.{Node, Off, is_split, node_shows}
use Rattle.tree.specs.WalkNeeds.{Sound, SoundNode, SoundTree}

-- a half's vectors by level, in the raised codebook
abbrev pub raised_vectors : List ℕ → Svq1Half → ℕ → Vectors
raised_vectors raised h d = vectors_in raised (page_start h d) (area d)

-- what a leaf, and what a node, shows at block i of a plane of stride s
abbrev pub leaf_as : List ℕ → Svq1Half → ℕ → List ℕ → ℕ → Leaf → List ℕ
leaf_as raised h s predictor = shown_at (raised_vectors raised h) s predictor

abbrev pub node_at : List ℕ → Svq1Half → ℕ → List ℕ → ℕ → Node → List ℕ
node_at raised h s predictor = node_shows (leaf_as raised h s predictor)

-- the plane m with what block i, of level d, of the tree shows
abbrev pub rebuilt_by : List ℕ → Svq1Half → ℕ → List ℕ → List Node → ℕ → ℕ → List ℕ → List ℕ
rebuilt_by raised h s predictor t d i m = rebuilt s (λ k. is_split (get_or t k Off)) (λ k. node_at raised h s predictor k (get_or t k Off)) d i m

-- block i, of level d, lies in planes of p and of n samples and stride s
pub record Lies (s d i p n : ℕ) : Type 0 where
  pub deep : level i ≡ d
  pub number : i < block_count
  pub stride : s ≤ 4096
  pub predictor : In s d i p
  pub predictor_small : p ≤ 4096
  pub shown : In s d i n
  pub shown_small : n ≤ 4096

-- a leaf that can be shown there, over a predictor's plane
pub record Drawing (h : Svq1Half) (l : Leaf) (p raised s d i n : ℕ) : Type 0 where
  pub lies : Lies s d i p n
  pub copy : raised ≡ codebook_bytes
  pub sound : Sound h d l

-- a block that is a leaf which can be shown, or that shows nothing
pub record DrawingNode (h : Svq1Half) (x : Node) (p raised s d i n : ℕ) : Type 0 where
  pub lies : Lies s d i p n
  pub copy : raised ≡ codebook_bytes
  pub sound : SoundNode h d x

-- scratch of a block's size
pub record Cells (d under sums over : ℕ) : Type 0 where
  pub predictor : under ≡ area d
  pub totals : sums ≡ area d
  pub samples : over ≡ area d

-- a tree whose leaves can be shown, from block i on
pub record Rebuilding (h : Svq1Half) (t : List Node) (p raised s d i n : ℕ) : Type 0 where
  pub lies : Lies s d i p n
  pub copy : raised ≡ codebook_bytes
  pub sound : SoundTree h t
