-- The vector slices as the functions over them take and leave them (document 01, `svq1_mv_cache.rs`, refusal 20).
use Rattle.std.specs.Prelude.{ℕ, suc, ◌*◌, ◌≤◌, ◌<◌, ◌≡◌, List, map, length}
use Rattle.bits.specs.Basics.{signed_byte}
use Rattle.vectors.specs.declared.svq1_motion_predictor.Svq1Mv.{Svq1Mv}
use Rattle.mv_cache.specs.declared.svq1_mv_cache.NearBlocks.{NearBlocks}
use Rattle.mv_cache.specs.Neighbours.{Near}
use Rattle.mv_cache.specs.Grid.{put_part}
use Rattle.mv_cache.specs.GridLaws.{HoldsBlocks}
use Rattle.canvas.specs.Canvas.{largest_side, blocks_along}

-- the neighbours as the code holds them
abbrev pub near_from : NearBlocks → Near
near_from n = record {
  left = n.left;
  low_left = n.low_left;
  above = n.above;
  above_right = n.above_right;
  top = n.top;
  top_next = n.top_next;
  top_right = n.top_right;
}

-- slices of a plane of cols × rows macroblocks: each holds four entries a macroblock, or more
pub record VectorSlices (cols rows : ℕ) (vx vy : List ℕ) : Type 0 where
  pub wide : 0 < cols
  pub cols_most : cols ≤ blocks_along largest_side
  pub rows_most : rows ≤ blocks_along largest_side
  pub x_holds : rows * 2 * (2 * cols) ≤ length vx
  pub y_holds : rows * 2 * (2 * cols) ≤ length vy

-- a slice, cols macroblocks of s entries wide, that holds macroblock k
pub record BlocksRoom (s cols k : ℕ) (xs : List ℕ) : Type 0 where
  pub some : 0 < s
  pub side_most : s ≤ 16
  pub wide : 0 < cols
  pub cols_most : cols ≤ blocks_along largest_side
  pub holds : HoldsBlocks s cols (suc k) xs

-- the vectors vs stored as macroblock k's, a byte for each component; every other byte stays
pub record Stored (cols k : ℕ) (vs : List Svq1Mv) (vx vy ux uy : List ℕ) : Type 0 where
  pub x_put : ux ≡ put_part 2 cols k (map (λ (v : Svq1Mv). signed_byte v.x) vs) vx
  pub y_put : uy ≡ put_part 2 cols k (map (λ (v : Svq1Mv). signed_byte v.y) vs) vy
