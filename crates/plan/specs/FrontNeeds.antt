-- What a tree shows at the front of a slice (document 01, `svq1_enc_tree.rs`: `plan_reconstruction`).
use Rattle.std.specs.Prelude.{◌≡◌, List, ℕ, ◌≤◌, take, drop}
use Rattle.book.specs.Book.{codebook_bytes}
use Rattle.book.specs.Level.{width, area}
use Rattle.book.specs.declared.svq1_vlc.Svq1Half.{Svq1Half}
use Rattle.tree.specs.Blocks.{first}
use Rattle.tree_samples.specs.RebuildNeeds.{rebuilt_by}
use Rattle.tree.specs.TreeBits.{Node}
use Rattle.tree.specs.WalkNeeds.{SoundTree}

-- a tree for a block of level d that can be shown, over a predictor of that level, and room
pub record FrontReady (h : Svq1Half) (t : List Node) (predictor raised d out : ℕ) : Type 0 where
  pub five : d ≤ 5
  pub whole : predictor ≡ area d
  pub copy : raised ≡ codebook_bytes
  pub room : out ≡ 256
  pub sound : SoundTree h t

-- the samples at the front, and what was behind them
pub record FrontShown (h : Svq1Half) (t : List Node) (predictor raised : List ℕ) (d : ℕ) (out left : List ℕ) : Type 0 where
  pub front : take (area d) left ≡ rebuilt_by raised h (width d) predictor t d (first d) (take (area d) out)
  pub behind : drop (area d) left ≡ drop (area d) out
