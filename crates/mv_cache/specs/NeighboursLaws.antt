-- Laws of the neighbours: they are vectors of earlier macroblocks, so slices that agree on those give the same neighbours; vectors in -32..31 stay so when they are stored and when a prediction is made of them.
-- Assumes nothing.
use Rattle.std.specs.Prelude.{Option, Some, None, ◌≡◌, ℕ, zero, suc, ◌+◌, ◌-◌, ◌*◌, ◌/◌, ◌%◌, ◌≤◌, ◌<◌, List, [], ◌∷◌, map, Bool, true, ◌&&◌, ltb, get_or, ℤ, pos, negsuc, ◌+ℤ◌}
use Rattle.std.proofs.Math.Path.{refl}
use Rattle.std.proofs.Common.{sym, arith, div-add-mod', mul-le-mul, le_refl, suc-mul, true≢false}
use Rattle.std.proofs.Math.Decide.{dec_lt}
use Rattle.std.proofs.Math.Bool.{false}
use Rattle.std.proofs.Math.IntN.{sub_ℕ}
use Rattle.std.specs.Int.Signed.{mag}
use borrow.Author.Tests.{ltb-true, ltb-false}
use Rattle.bits.specs.Basics.{pick, All, signed_of, signed_byte}
use Rattle.bits.specs.SignedLaws.{byte_back}
use Rattle.vectors.specs.declared.svq1_motion_predictor.Svq1Mv.{Svq1Mv}
use Rattle.vectors.specs.VectorsLaws.{InRange, range_pos, range_neg, Inside, InsideIf, predicted_in}
use Rattle.mv_cache.specs.Neighbours.{stored_at, neighbour_at, Near, near_of, for_one, for_first, for_second, for_third, for_fourth}
use Rattle.mv_cache.specs.Grid.{owner, place_in, put_part}
use Rattle.mv_cache.specs.GridLaws.{entry, Agree, HoldsBlocks, owner-entry, put_own, put_other}

-- ---- the seven neighbours belong to macroblocks before k
-- an 8×8 row and column, where they are on the plane, belong to a macroblock before k
abbrev Earlier : ℕ → ℕ → ℤ → ℤ → Type 0
Earlier cols k (pos row) (pos col) = col < 2 * cols → row / 2 * cols + col / 2 < k
Earlier cols k (pos row) (negsuc col) = Unit
Earlier cols k (negsuc row) col = Unit

-- a row or a column that many back, where it is one
row_back : (cols k r d : ℕ) (col : ℤ) → (d ≤ r → Earlier cols k (pos (r - d)) col) → Earlier cols k (sub_ℕ r d) col
row_back cols k r d col h = go (ltb r d) refl
  where
    go : (b : Bool) → ltb r d ≡ b → Earlier cols k (sub_ℕ r d) col
    go true e = rw e tt
    go false e = rw e (h (ltb-false r d e))

col_back : (cols k row c d : ℕ) → (d ≤ c → Earlier cols k (pos row) (pos (c - d))) → Earlier cols k (pos row) (sub_ℕ c d)
col_back cols k row c d h = go (ltb c d) refl
  where
    go : (b : Bool) → ltb c d ≡ b → Earlier cols k (pos row) (sub_ℕ c d)
    go true e = rw e tt
    go false e = rw e (h (ltb-false c d e))

-- the same row of macroblocks, to the left; a row above
beside : (cols k row col : ℕ) → row / 2 ≡ k / cols → col / 2 < k % cols → Earlier cols k (pos row) (pos col)
beside cols k row col e l h = rw e (omega (arith, div-add-mod' k cols))

above : (cols k row col : ℕ) → row / 2 < k / cols → Earlier cols k (pos row) (pos col)
above cols k row col l h =
    let m : suc (row / 2) * cols ≤ k / cols * cols = mul-le-mul l (le_refl cols) in
    let c : col / 2 < cols = omega arith in
    omega (arith, div-add-mod' k cols, suc-mul (row / 2) cols)

module _ (cols k : ℕ) where
  abbrev first_row : ℕ
  first_row = k / cols * 2

  abbrev first_col : ℕ
  first_col = k % cols * 2

  to_left : (row : ℕ) → row / 2 ≡ k / cols → Earlier cols k (pos row) (pos first_col +ℤ negsuc 0)
  to_left row e = col_back cols k row first_col 1 (λ l. beside cols k row (first_col - 1) e (omega arith))

  over : (d col : ℕ) → 0 < d → Earlier cols k (sub_ℕ first_row d) (pos col)
  over d col p = row_back cols k first_row d (pos col) (λ l. above cols k (first_row - d) col (omega arith))

-- what holds of an 8×8 row and column of an earlier macroblock holds of all seven
record Seven (P : ℤ → ℤ → Type 0) (r c : ℤ) : Type 0 where
  left : P r (c +ℤ negsuc 0)
  low_left : P (r +ℤ pos 1) (c +ℤ negsuc 0)
  above : P (r +ℤ negsuc 1) c
  above_right : P (r +ℤ negsuc 1) (c +ℤ pos 2)
  top : P (r +ℤ negsuc 0) c
  top_next : P (r +ℤ negsuc 0) (c +ℤ pos 1)
  top_right : P (r +ℤ negsuc 0) (c +ℤ pos 2)

seven : (cols k : ℕ) (P : ℤ → ℤ → Type 0) → ((row col : ℤ) → Earlier cols k row col → P row col)
    → Seven P (pos (k / cols * 2)) (pos (k % cols * 2))
seven cols k P h = record {
  left = h _ _ (to_left cols k (k / cols * 2) (omega arith));
  low_left = h _ _ (to_left cols k (k / cols * 2 + 1) (omega arith));
  above = h _ _ (over cols k 2 _ (omega arith));
  above_right = h _ _ (over cols k 2 _ (omega arith));
  top = h _ _ (over cols k 1 _ (omega arith));
  top_next = h _ _ (over cols k 1 _ (omega arith));
  top_right = h _ _ (over cols k 1 _ (omega arith));
}

-- ---- slices that agree on the macroblocks before k give the same neighbours
module _ (cols rows k : ℕ) (vx vy ux uy : List ℕ) (ex : Agree 2 cols k vx ux) (ey : Agree 2 cols k vy uy) where
  by_test : (p q : Bool) (a c : Option Svq1Mv) → (q ≡ true → a ≡ c) → pick (p && q) a None ≡ pick (p && q) c None
  by_test true true a c h = h refl
  by_test true false a c h = refl
  by_test false q a c h = refl

  at_same : (row col : ℤ) → Earlier cols k row col → neighbour_at cols rows vx vy row col ≡ neighbour_at cols rows ux uy row col
  unfolding neighbour_at
  at_same (pos row) (pos col) h =
      by_test (ltb row (2 * rows)) (ltb col (2 * cols)) _ _ (λ e.
      let l : col < 2 * cols = ltb-true col (2 * cols) e in
      let o : owner 2 cols (entry 2 cols row col) < k = rw (owner-entry 2 cols row col l) (h l) in
      rw (ex _ o, ey _ o))
  at_same (pos row) (negsuc col) h = by_test (ltb row (2 * rows)) false _ _ (λ e. absurd (true≢false (sym e)))
  at_same (negsuc row) col h = refl

  pub near_same : near_of cols rows vx vy k ≡ near_of cols rows ux uy k
  unfolding near_of
  near_same =
      let s = seven cols k (λ row col. neighbour_at cols rows vx vy row col ≡ neighbour_at cols rows ux uy row col) at_same in
      λ i. record {
        left = s.left i;
        low_left = s.low_left i;
        above = s.above i;
        above_right = s.above_right i;
        top = s.top i;
        top_next = s.top_next i;
        top_right = s.top_right i;
      }

-- ---- every neighbour is in -32..31
pub record Around (n : Near) : Type 0 where
  pub left : InsideIf n.left
  pub low_left : InsideIf n.low_left
  pub above : InsideIf n.above
  pub above_right : InsideIf n.above_right
  pub top : InsideIf n.top
  pub top_next : InsideIf n.top_next
  pub top_right : InsideIf n.top_right

-- so is every predictor that a search is given
pub for_one_in : (n : Near) → Around n → Inside (for_one n)
for_one_in n h = predicted_in n.left n.above n.above_right h.left h.above h.above_right

pub for_first_in : (n : Near) → Around n → Inside (for_first n)
for_first_in n h = predicted_in n.left n.top n.top_right h.left h.top h.top_right

pub for_second_in : (n : Near) (a : Svq1Mv) → Around n → Inside a → Inside (for_second n a)
for_second_in n a h i = predicted_in (Some a) n.top_next n.top_right i h.top_next h.top_right

pub for_third_in : (n : Near) (a b : Svq1Mv) → Around n → Inside a → Inside b → Inside (for_third n a b)
for_third_in n a b h i j = predicted_in n.low_left (Some a) (Some b) h.low_left i j

pub for_fourth_in : (a b c : Svq1Mv) → Inside a → Inside b → Inside c → Inside (for_fourth a b c)
for_fourth_in a b c i j l = predicted_in (Some c) (Some b) (Some a) l j i

-- a slice's vectors of the macroblocks before k are in -32..31
abbrev pub Ranged : ℕ → ℕ → List ℕ → Type 0
Ranged cols k vs = (j : ℕ) → owner 2 cols j < k → InRange (signed_of (get_or vs j 0))

module _ (cols rows k : ℕ) (vx vy : List ℕ) (hx : Ranged cols k vx) (hy : Ranged cols k vy) where
  by_in : (p q : Bool) (v : Svq1Mv) → (q ≡ true → Inside v) → InsideIf (pick (p && q) (Some v) None)
  by_in true true v h = h refl
  by_in true false v h = tt
  by_in false q v h = tt

  at_in : (row col : ℤ) → Earlier cols k row col → InsideIf (neighbour_at cols rows vx vy row col)
  unfolding neighbour_at
  at_in (pos row) (pos col) h =
      by_in (ltb row (2 * rows)) (ltb col (2 * cols)) _ (λ e.
      let l : col < 2 * cols = ltb-true col (2 * cols) e in
      let o : owner 2 cols (entry 2 cols row col) < k = rw (owner-entry 2 cols row col l) (h l) in
      record { x_in = hx _ o; y_in = hy _ o })
  at_in (pos row) (negsuc col) h = by_in (ltb row (2 * rows)) false (stored_at cols vx vy row 0) (λ e. absurd (true≢false (sym e)))
  at_in (negsuc row) col h = tt

  pub around : Around (near_of cols rows vx vy k)
  unfolding near_of
  around =
      let s = seven cols k (λ row col. InsideIf (neighbour_at cols rows vx vy row col)) at_in in
      record {
        left = s.left;
        low_left = s.low_left;
        above = s.above;
        above_right = s.above_right;
        top = s.top;
        top_next = s.top_next;
        top_right = s.top_right;
      }

-- ---- storing
-- a byte holds a number in -32..31
range_small : (z : ℤ) → InRange z → mag z < 128
range_small (pos n) h = let l = range_pos n h in omega arith
range_small (negsuc n) h = let l = range_neg n h in omega arith

-- so a component of vectors in -32..31 that was stored as a byte is in that range again
pub stored_component : (f : Svq1Mv → ℤ) → ((v : Svq1Mv) → Inside v → InRange (f v)) → (vs : List Svq1Mv) → All Inside vs → (j : ℕ)
    → InRange (signed_of (get_or (map (λ (v : Svq1Mv). signed_byte (f v)) vs) j 0))
stored_component f in-range [] h j = refl
stored_component f in-range (v ∷ vs) h zero = rw (byte_back (f v) (range_small (f v) (in-range v h.0))) (in-range v h.0)
stored_component f in-range (v ∷ vs) h (suc j) = stored_component f in-range vs h.1 j

-- macroblock k stored with bytes of vectors in -32..31
pub ranged_put : (cols k : ℕ) (v a : List ℕ) → HoldsBlocks 2 cols (suc k) a → Ranged cols k a → ((j : ℕ) → InRange (signed_of (get_or v j 0)))
    → Ranged cols (suc k) (put_part 2 cols k v a)
ranged_put cols k v a ha h hv j l = go (dec_lt (owner 2 cols j) k)
  where
    go : Dec (owner 2 cols j < k) → InRange (signed_of (get_or (put_part 2 cols k v a) j 0))
    go (yes m) = rw (put_other 2 cols k v a j (ha j l) (λ q. omega arith)) (h j m)
    go (no m) = rw (put_own 2 cols k v a j (ha j l) (omega arith)) (hv (place_in 2 cols j))
