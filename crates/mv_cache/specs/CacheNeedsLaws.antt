-- Laws of the vector slices for the code: a neighbour by the tests that it makes, and a component's byte.
-- Assumes nothing.
use Rattle.std.specs.Prelude.{Some, None, ℕ, suc, ◌+◌, ◌-◌, ◌*◌, ◌/◌, ◌%◌, ◌≤◌, ◌<◌, ◌≡◌, refl, true, false, List, length, ℤ, pos, negsuc, ◌+ℤ◌}
use Rattle.std.proofs.Common.{sym, ap, true≢false, arith, mul_comm, mod-lt, div-lt_iff_lt-mul}
use Rattle.std.proofs.Math.IntN.{sub_ℕ}
use Rattle.std.specs.Int.Signed.{lt_z}
use Rattle.std.proofs.Math.Arith.{digits_lt}
use borrow.Author.Tests.{lt-ltb, le-ltb, ltb-true}
use Rattle.bits.specs.Basics.{signed_byte}
use Rattle.vectors.specs.VectorsLaws.{InRange, range_pos, range_neg}
use Rattle.mv_cache.specs.Neighbours.{stored_at, neighbour_at}
use Rattle.canvas.specs.Canvas.{largest_side, blocks_along}
use Rattle.mv_cache.specs.CacheNeeds.{VectorSlices, BlocksRoom}
use Rattle.mv_cache.specs.Grid.{owner}
use Rattle.mv_cache.specs.GridLaws.{in_owner}
use Rattle.bits.specs.DifferenceLaws.{pos_is}

module _ (cols rows : ℕ) (vx vy : List ℕ) where
  pub absent_above : (row up : ℕ) (col : ℤ) → row < up → None ≡ neighbour_at cols rows vx vy (sub_ℕ row up) col
  unfolding neighbour_at
  absent_above row up col h = simp (lt-ltb _ _ h)

  pub absent_below : (row up : ℕ) (col : ℤ) → up ≤ row → 2 * rows ≤ row - up → None ≡ neighbour_at cols rows vx vy (sub_ℕ row up) col
  unfolding neighbour_at
  absent_below row up col h k = simp (le-ltb _ _ h, le-ltb _ _ k)

  pub absent_left : (row up col back : ℕ) → up ≤ row → row - up < 2 * rows → col < back
      → None ≡ neighbour_at cols rows vx vy (sub_ℕ row up) (sub_ℕ col back)
  unfolding neighbour_at
  absent_left row up col back h k l = simp (le-ltb _ _ h, lt-ltb _ _ k, lt-ltb _ _ l)

  pub absent_right : (row up col back : ℕ) → up ≤ row → row - up < 2 * rows → back ≤ col → 2 * cols ≤ col - back
      → None ≡ neighbour_at cols rows vx vy (sub_ℕ row up) (sub_ℕ col back)
  unfolding neighbour_at
  absent_right row up col back h k l m = simp (le-ltb _ _ h, lt-ltb _ _ k, le-ltb _ _ l, le-ltb _ _ m)

  pub present : (row up col back : ℕ) → up ≤ row → row - up < 2 * rows → back ≤ col → col - back < 2 * cols
      → Some (stored_at cols vx vy (row - up) (col - back)) ≡ neighbour_at cols rows vx vy (sub_ℕ row up) (sub_ℕ col back)
  unfolding neighbour_at
  present row up col back h k l m = simp (le-ltb _ _ h, lt-ltb _ _ k, le-ltb _ _ l, lt-ltb _ _ m)

  -- its bytes lie in the slices
  pub stored_in_lem : (row col : ℕ) → row < 2 * rows → col < 2 * cols → row * (2 * cols) + col < rows * 2 * (2 * cols)
  stored_in_lem row col h k = rw (mul_comm rows 2) (digits_lt h k)

  -- a row or a column that is not taken back
  pub same_row : (row : ℕ) (col : ℤ) → neighbour_at cols rows vx vy (sub_ℕ row 0) col ≡ neighbour_at cols rows vx vy (pos row) col
  same_row row col = ap (λ (z : ℤ). neighbour_at cols rows vx vy z col) (sym (pos_is row))

  pub same_col : (row : ℤ) (col : ℕ) → neighbour_at cols rows vx vy row (sub_ℕ col 0) ≡ neighbour_at cols rows vx vy row (pos col)
  same_col row col = ap (λ (z : ℤ). neighbour_at cols rows vx vy row z) (sym (pos_is col))

  -- the first row and column of a macroblock are small
  pub first_small : (k : ℕ) → VectorSlices cols rows vx vy → k < rows * cols → (k / cols < blocks_along largest_side) × (k % cols < blocks_along largest_side)
  first_small k s h =
      let q : k / cols < rows = (div-lt_iff_lt-mul s.wide).1 h in
      (omega (arith, s.rows_most), omega (arith, s.cols_most, mod-lt k s.wide))

  -- slices of a plane hold its macroblocks
  pub room_x : (k : ℕ) → VectorSlices cols rows vx vy → k < rows * cols → BlocksRoom 2 cols k vx
  room_x k s h =
      let far : (j : ℕ) → owner 2 cols j < suc k → j < length vx = λ j l. omega (arith, in_owner 2 cols (omega arith) s.wide rows j (omega arith), s.x_holds) in
      record { some = omega arith; side_most = omega arith; wide = s.wide; cols_most = s.cols_most; holds = far }

  pub room_y : (k : ℕ) → VectorSlices cols rows vx vy → k < rows * cols → BlocksRoom 2 cols k vy
  room_y k s h =
      let far : (j : ℕ) → owner 2 cols j < suc k → j < length vy = λ j l. omega (arith, in_owner 2 cols (omega arith) s.wide rows j (omega arith), s.y_holds) in
      record { some = omega arith; side_most = omega arith; wide = s.wide; cols_most = s.cols_most; holds = far }

-- ---- bytes
-- the byte of a component, as the code makes it
pub record Byte (z : ℤ) (n : ℕ) : Type 0 where
  pub same : z ≡ pos n
  pub small : n < 256

pub byte_low : (z : ℤ) → InRange z → lt_z z (pos 0) ≡ true → Byte (z +ℤ pos 256) (signed_byte z)
byte_low (pos n) h e = absurd (omega (arith, ltb-true n 0 e))
byte_low (negsuc n) h e =
    let l = range_neg n h in
    record { same = simp (le-ltb 256 (suc n) (omega arith)) (ap pos (omega arith)); small = omega arith }

pub byte_high : (z : ℤ) → InRange z → lt_z z (pos 0) ≡ false → Byte z (signed_byte z)
byte_high (pos n) h e = let l = range_pos n h in record { same = refl; small = omega arith }
byte_high (negsuc n) h e = absurd (true≢false e)
