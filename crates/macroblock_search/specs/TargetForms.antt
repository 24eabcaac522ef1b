-- A macroblock's target sample by sample, as the code makes it (document 01, `block` of `svq1_enc.rs`).
use Rattle.std.specs.Prelude.{◌≡◌, List, ℕ, ◌+◌, ◌-◌, ◌*◌, ◌/◌, ◌%◌, ◌≤◌, ◌<◌, min, length, get_or}
use Rattle.canvas.specs.Canvas.{largest_side, blocks_along}

-- sample j of macroblock k of a source of width × height, its last column and row repeated
unfoldable pub target_sample : ℕ → ℕ → List ℕ → ℕ → ℕ → ℕ
target_sample width height source k j =
    get_or source (min (k / blocks_along width * 16 + j / 16) (height - 1) * width + min (k % blocks_along width * 16 + j % 16) (width - 1)) 0

-- a source of a size that passes, and one of its macroblocks
pub record Sources (width height : ℕ) (source : List ℕ) (k : ℕ) : Type 0 where
  pub width_some : 1 ≤ width
  pub width_most : width ≤ largest_side
  pub height_some : 1 ≤ height
  pub height_most : height ≤ largest_side
  pub samples : length source ≡ width * height
  pub number : k < blocks_along height * blocks_along width

-- the first n of the 256 samples are there
pub record RowsFilled (f : ℕ → ℕ) (n : ℕ) (out : List ℕ) : Type 0 where
  pub whole : length out ≡ 256
  pub same : (j : ℕ) → j < n → get_or out j 0 ≡ f j
