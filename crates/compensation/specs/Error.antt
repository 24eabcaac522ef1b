-- The absolute error of two blocks (document 01, `svq1_enc_inter.rs`), and a sum of rows against the best found so far (document 02, §6).
use Rattle.std.specs.Prelude.{ℕ, zero, suc, ◌+◌, ◌≤◌, ◌<◌, ◌≡◌, Bool, true, false, List, [], ◌∷◌, leb}
use Rattle.std.proofs.Math.Option.{Option, none, some}
use Rattle.bits.specs.Basics.{pick, gap, sum}
use Rattle.compensation.specs.declared.svq1_enc_inter.inner.VectorSum.{VectorSum}

-- the sum of absolute differences of two runs of samples
unfoldable pub sad : List ℕ → List ℕ → ℕ
sad [] ys = 0
sad (x ∷ xs) [] = 0
sad (x ∷ xs) (y ∷ ys) = gap x y + sad xs ys

-- ---- against the best found so far
-- a sum is beaten where it reaches the best found so far, that is, where it is at least that; where none is found, no sum is
abbrev pub beaten : Option ℕ → ℕ → Bool
beaten none s = false
beaten (some b) s = leb b s

-- n rows left from row i on, s summed before them, f the absolute error of each row: the sum ends behind the first row in which the sum is beaten, else behind the last
unfoldable pub sum_rows : (ℕ → ℕ) → Option ℕ → ℕ → ℕ → ℕ → VectorSum
sum_rows f best zero i s = record { sum = s; rows = i }
sum_rows f best (suc n) i s = pick (beaten best (s + f i)) (record { sum = s + f i; rows = i + 1 }) (sum_rows f best n (i + 1) (s + f i))

-- what that says of the sum of n rows: the rows taken are summed whole, and end with the first row in which the sum is beaten, else with the last
pub record RowsTaken (f : ℕ → ℕ) (best : Option ℕ) (n : ℕ) (t : VectorSum) : Type 0 where
  pub sum_of_rows : t.sum ≡ sum f t.rows
  pub at_least_one : 1 ≤ n → 1 ≤ t.rows
  pub at_most_all : t.rows ≤ n
  pub not_before : (k : ℕ) → 1 ≤ k → k < t.rows → beaten best (sum f k) ≡ false
  pub beaten_there : t.rows < n → beaten best t.sum ≡ true
  -- so it is beaten exactly where the whole sum is, and is the whole where it is not
  pub as_whole : beaten best t.sum ≡ beaten best (sum f n)
  pub whole : beaten best t.sum ≡ false → t ≡ record { sum = sum f n; rows = n }
