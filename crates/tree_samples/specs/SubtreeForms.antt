-- The blocks of a plan that is made for a block of level d alone: those under the first block of that level (document 01, `svq1_enc_tree.rs`).
use Rattle.std.specs.Prelude.{◌≡◌, Bool, true, ◌&&◌, ℕ, ◌-◌, ◌^◌, ◌≤◌, ◌<◌, leb, ltb}
use Rattle.book.specs.Level.{area}
use Rattle.tree.specs.Blocks.{block_count, level, first}

-- block i lies under the first block of level d: of its level's blocks it is among the first 2^(d - level)
unfoldable pub in_tree : ℕ → ℕ → Bool
in_tree d i = leb (level i) d && ltb (i - first (level i)) (2 ^ (d - level i))

-- such a block of a plane of n samples, and room for it
pub record BlockPlaced (d i n m : ℕ) : Type 0 where
  pub five : d ≤ 5
  pub block : i < block_count
  pub under : in_tree d i ≡ true
  pub plane : n ≡ area d
  pub room : m ≡ area (level i)
