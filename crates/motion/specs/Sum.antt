-- The sum of a vector against the best found so far, and what a search makes of it (document 02, §6).
use Rattle.std.specs.Prelude.{ℕ, ◌*◌, ◌≡◌, false, ◌&&◌, not, List, take, drop}
use Rattle.std.proofs.Math.Option.{Option, none, some}
use Rattle.bits.specs.Basics.{pick}
use Rattle.bits.specs.Refusals.{Answer, done, refused}
use Rattle.bits.specs.Calls.{unless_refused}
use Rattle.vectors.specs.declared.svq1_motion_predictor.Svq1Mv.{Svq1Mv}
use Rattle.compensation.specs.declared.svq1_enc_inter.inner.VectorSum.{VectorSum}
use Rattle.compensation.specs.Compensation.{moved_block}
use Rattle.compensation.specs.Error.{sad, beaten, sum_rows, RowsTaken}
use Rattle.motion.specs.Search.{Search, allowed, error_of, Best, nothing, best, consider, search_refusal}

-- row i of a block of this side
abbrev pub block_row : ℕ → ℕ → List ℕ → List ℕ
block_row side i xs = take side (drop (side * i) xs)

-- the absolute error of row i of a vector's block
unfoldable pub row_error : Search → Svq1Mv → ℕ → ℕ
row_error g v i = sad (block_row g.side i g.target) (block_row g.side i (moved_block g.reference g.side g.x g.y v))

-- the sum of a vector: row by row, ended behind the first row in which it reaches the best found so far, else behind the last; where none is found, behind the last
unfoldable pub vector_sum : Search → Svq1Mv → Option ℕ → VectorSum
vector_sum g v found = sum_rows (row_error g v) found g.side 0 0

-- the best absolute error that this search has found so far
abbrev pub error_found : Best → Option ℕ
error_found nothing = none
error_found (best v e) = some e

-- a candidate of a search that sums so: it replaces the best so far where it may be tried and its sum is not beaten
unfoldable pub consider_early : Search → Svq1Mv → Best → Best
consider_early g v f =
    let t = vector_sum g v (error_found f) in
    pick (allowed g v && not (beaten (error_found f) t.sum)) (best v t.sum) f

-- what is claimed of it, of every search, vector and best found so far
pub record DroppedEarly (g : Search) (v : Svq1Mv) : Type 0 where
  -- the sum of a vector and its rows are those of the rule; it reaches the best exactly where the whole absolute error does, and else is all of it
  pub rows_taken : (found : Option ℕ) → RowsTaken (row_error g v) found g.side (vector_sum g v found)
  pub as_whole : (found : Option ℕ) → beaten found (vector_sum g v found).sum ≡ beaten found (error_of g v)
  pub whole : (found : Option ℕ) → beaten found (vector_sum g v found).sum ≡ false → vector_sum g v found ≡ record { sum = error_of g v; rows = g.side }
  -- so each candidate leaves the best that it would leave if it were summed whole
  pub finds_the_same : (f : Best) → consider_early g v f ≡ consider g v f

-- ---- the sum as a call; the radius plays no part
-- 23 where the vector may not be tried
abbrev pub sum_or23 : Search → Svq1Mv → Option ℕ → Answer VectorSum
sum_or23 g v found = pick (allowed g v) (done (vector_sum g v found)) (refused 23)

-- refused first as the search is
unfoldable pub sum_answer : Search → Svq1Mv → Option ℕ → Answer VectorSum
sum_answer g v found = unless_refused (search_refusal g) (sum_or23 g v found)
