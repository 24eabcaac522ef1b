-- A block's place in a plane of any stride, by its row and its column: two tables, each proved by one computed test.
-- Assumes nothing.
use Rattle.std.specs.Prelude.{◌≡◌, refl, Bool, true, false, ◌&&◌, List, [], ◌∷◌, ℕ, zero, suc, ◌+◌, ◌-◌, ◌*◌, ◌/◌, ◌%◌, ◌≤◌, ◌<◌, eqb, leb, get_or}
use Rattle.std.proofs.Common.{arith, mul-add, eqb-true, leb-true}
use Rattle.bits.specs.Basics.{pick}
use Rattle.bits.specs.BasicsLaws.{both_true, below, below_at}
use Rattle.book.specs.Level.{square, width, height}
use Rattle.tree.specs.Blocks.{block_count, level, place_under, place}

-- the row and the column at which block i, n levels below the root, begins
unfoldable pub row_under : ℕ → ℕ → ℕ
row_under zero i = 0
row_under (suc n) i = row_under n ((i - 1) / 2) + pick (eqb (i % 2) 0) (pick (square (suc (4 - n))) (height (4 - n)) 0) 0

unfoldable pub column_under : ℕ → ℕ → ℕ
column_under zero i = 0
column_under (suc n) i = column_under n ((i - 1) / 2) + pick (eqb (i % 2) 0) (pick (square (suc (4 - n))) 0 (width (4 - n))) 0

unfoldable pub row_of : ℕ → ℕ
row_of i = row_under (5 - level i) i

unfoldable pub column_of : ℕ → ℕ
column_of i = column_under (5 - level i) i

-- a step down, a step to the right, or none
one_step : (s h w p r k : ℕ) (odd sq : Bool) → p ≡ s * r + k → p + pick odd (pick sq (s * h) w) 0 ≡ s * (r + pick odd (pick sq h 0) 0) + (k + pick odd (pick sq 0 w) 0)
one_step s h w p r k true true e = rw (mul-add s r h) (omega arith)
one_step s h w p r k true false e = rw (mul-add s r 0) (omega arith)
one_step s h w p r k false sq e = rw (mul-add s r 0) (omega arith)

place_under_lem : (s n i : ℕ) → place_under s n i ≡ s * row_under n i + column_under n i
unfolding place_under row_under column_under
place_under_lem s zero i = omega arith
place_under_lem s (suc n) i =
    one_step s (height (4 - n)) (width (4 - n)) (place_under s n ((i - 1) / 2)) (row_under n ((i - 1) / 2)) (column_under n ((i - 1) / 2)) (eqb (i % 2) 0) (square (suc (4 - n)))
    (place_under_lem s n ((i - 1) / 2))

pub place_is : (s i : ℕ) → place s i ≡ s * row_of i + column_of i
unfolding place row_of column_of
place_is s i = place_under_lem s (5 - level i) i

-- ---- the tables of the code
abbrev pub row_table : List ℕ
row_table = 0 ∷ 0 ∷ 8 ∷ 0 ∷ 0 ∷ 8 ∷ 8 ∷ 0 ∷ 4 ∷ 0 ∷ 4 ∷ 8 ∷ 12 ∷ 8 ∷ 12 ∷ 0 ∷ 0 ∷ 4 ∷ 4 ∷ 0 ∷ 0 ∷ 4 ∷ 4 ∷ 8 ∷ 8 ∷ 12 ∷ 12 ∷ 8 ∷ 8 ∷ 12 ∷ 12 ∷ 0 ∷ 2 ∷ 0 ∷ 2 ∷ 4 ∷ 6 ∷ 4 ∷ 6 ∷ 0 ∷ 2 ∷ 0 ∷ 2 ∷ 4 ∷ 6 ∷ 4 ∷ 6 ∷ 8 ∷ 10 ∷ 8 ∷ 10 ∷ 12 ∷ 14 ∷ 12 ∷ 14 ∷ 8 ∷ 10 ∷ 8 ∷ 10 ∷ 12 ∷ 14 ∷ 12 ∷ 14 ∷ []

abbrev pub column_table : List ℕ
column_table = 0 ∷ 0 ∷ 0 ∷ 0 ∷ 8 ∷ 0 ∷ 8 ∷ 0 ∷ 0 ∷ 8 ∷ 8 ∷ 0 ∷ 0 ∷ 8 ∷ 8 ∷ 0 ∷ 4 ∷ 0 ∷ 4 ∷ 8 ∷ 12 ∷ 8 ∷ 12 ∷ 0 ∷ 4 ∷ 0 ∷ 4 ∷ 8 ∷ 12 ∷ 8 ∷ 12 ∷ 0 ∷ 0 ∷ 4 ∷ 4 ∷ 0 ∷ 0 ∷ 4 ∷ 4 ∷ 8 ∷ 8 ∷ 12 ∷ 12 ∷ 8 ∷ 8 ∷ 12 ∷ 12 ∷ 0 ∷ 0 ∷ 4 ∷ 4 ∷ 0 ∷ 0 ∷ 4 ∷ 4 ∷ 8 ∷ 8 ∷ 12 ∷ 12 ∷ 8 ∷ 8 ∷ 12 ∷ 12 ∷ []

ruled : List ℕ → (ℕ → ℕ) → ℕ → Bool
ruled table rule i = eqb (get_or table i 0) (rule i) && leb (rule i) 15

rows_tested : below (ruled row_table row_of) block_count ≡ true
unfolding below ruled row_of row_under
rows_tested = refl

columns_tested : below (ruled column_table column_of) block_count ≡ true
unfolding below ruled column_of column_under
columns_tested = refl

by_test : (table : List ℕ) (rule : ℕ → ℕ) (i : ℕ) → below (ruled table rule) block_count ≡ true → i < block_count → (get_or table i 0 ≡ rule i) × (rule i ≤ 15)
unfolding ruled
by_test table rule i e h =
    let two = both_true (eqb (get_or table i 0) (rule i)) (leb (rule i) 15) (below_at (ruled table rule) block_count i e h) in
    (eqb-true (get_or table i 0) (rule i) two.0, leb-true (rule i) 15 two.1)

pub row_at : (i : ℕ) → i < block_count → (get_or row_table i 0 ≡ row_of i) × (row_of i ≤ 15)
row_at i h = by_test row_table row_of i rows_tested h

pub column_at : (i : ℕ) → i < block_count → (get_or column_table i 0 ≡ column_of i) × (column_of i ≤ 15)
column_at i h = by_test column_table column_of i columns_tested h
