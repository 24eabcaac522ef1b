-- The block vectors in memory, and the neighbours of a macroblock (document 01, `svq1_mv_cache.rs`).
use Rattle.std.specs.Prelude.{Option, Some, None, ℕ, ◌+◌, ◌*◌, ◌/◌, ◌%◌, Bool, false, ◌&&◌, List, ltb, get_or, ℤ, pos, negsuc, ◌+ℤ◌}
use Rattle.bits.specs.Basics.{pick, natural, signed_of}
use Rattle.vectors.specs.declared.svq1_motion_predictor.Svq1Mv.{Svq1Mv}
use Rattle.vectors.specs.Vectors.{predicted}

-- a place among n, or none
abbrev pub within : ℤ → ℕ → Bool
within (pos k) n = ltb k n
within (negsuc k) n = false

-- a plane of cols × rows macroblocks: the vector at an 8×8 row and column stands at row × twice the columns + column, a two's complement byte in each slice
abbrev pub stored_at : ℕ → List ℕ → List ℕ → ℕ → ℕ → Svq1Mv
stored_at cols vx vy row col = record { x = signed_of (get_or vx (row * (2 * cols) + col) 0); y = signed_of (get_or vy (row * (2 * cols) + col) 0) }

-- the neighbour there; off the plane it is absent
unfoldable pub neighbour_at : ℕ → ℕ → List ℕ → List ℕ → ℤ → ℤ → Option Svq1Mv
neighbour_at cols rows vx vy row col =
    pick (within row (2 * rows) && within col (2 * cols)) (Some (stored_at cols vx vy (natural row) (natural col))) None

-- the seven neighbours outside a macroblock that predictions use; its first 8×8 row and column are r and c
pub record Near : Type 0 where
  pub left : Option Svq1Mv
  pub low_left : Option Svq1Mv
  pub above : Option Svq1Mv
  pub above_right : Option Svq1Mv
  pub top : Option Svq1Mv
  pub top_next : Option Svq1Mv
  pub top_right : Option Svq1Mv

abbrev pub near_at : (ℤ → ℤ → Option Svq1Mv) → ℤ → ℤ → Near
near_at at r c = record {
  left = at r (c +ℤ negsuc 0);
  low_left = at (r +ℤ pos 1) (c +ℤ negsuc 0);
  above = at (r +ℤ negsuc 1) c;
  above_right = at (r +ℤ negsuc 1) (c +ℤ pos 2);
  top = at (r +ℤ negsuc 0) c;
  top_next = at (r +ℤ negsuc 0) (c +ℤ pos 1);
  top_right = at (r +ℤ negsuc 0) (c +ℤ pos 2);
}

-- of macroblock k, in raster order
unfoldable pub near_of : ℕ → ℕ → List ℕ → List ℕ → ℕ → Near
near_of cols rows vx vy k = near_at (neighbour_at cols rows vx vy) (pos (k / cols * 2)) (pos (k % cols * 2))

-- the predictor of one vector: (r, c-1), (r-2, c), (r-2, c+2)
abbrev pub for_one : Near → Svq1Mv
for_one n = predicted n.left n.above n.above_right

-- of the first of four: (r, c-1), (r-1, c), (r-1, c+2)
abbrev pub for_first : Near → Svq1Mv
for_first n = predicted n.left n.top n.top_right

-- of the second: (r, c), (r-1, c+1), (r-1, c+2)
abbrev pub for_second : Near → Svq1Mv → Svq1Mv
for_second n a = predicted (Some a) n.top_next n.top_right

-- of the third: (r+1, c-1), (r, c), (r, c+1)
abbrev pub for_third : Near → Svq1Mv → Svq1Mv → Svq1Mv
for_third n a b = predicted n.low_left (Some a) (Some b)

-- of the fourth: (r+1, c), (r, c+1), (r, c)
abbrev pub for_fourth : Svq1Mv → Svq1Mv → Svq1Mv → Svq1Mv
for_fourth a b c = predicted (Some c) (Some b) (Some a)
