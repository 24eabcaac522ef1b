-- Laws of the sum of a vector against the best found so far: its rows make up the absolute error, and a candidate judged by it leaves what it leaves by its whole error.
-- Assumes nothing.
use Prim.Native.Nat.{ℕ, ◌*◌, ◌≤◌}
use Rattle.std.specs.Prelude.{◌≡◌, Bool, ◌&&◌, not, leb, ltb, drop}
use Rattle.std.proofs.Math.Path.{refl, ap}
use Rattle.std.proofs.Common.{◌∙◌, arith, drop_of_length-le, lt-ltb, le-ltb, leb-true, leb-false}
use Rattle.std.proofs.Math.Bool.{true, false}
use mathlib.Core.List.{List}
use Rattle.std.proofs.Math.Option.{Option, none, some}
use Rattle.std.proofs.Math.ListN.{length}
use Rattle.bits.specs.Basics.{pick, sum}
use Rattle.vectors.specs.declared.svq1_motion_predictor.Svq1Mv.{Svq1Mv}
use Rattle.compensation.specs.Compensation.{moved_block}
use Rattle.compensation.specs.CompensationLaws.{length_moved}
use Rattle.compensation.specs.Error.{sad, beaten}
use Rattle.compensation.specs.ErrorLaws.{sad-none, sad-rows}
use Rattle.compensation.specs.EarlyLaws.{rows_taken}
use Rattle.motion.specs.Search.{Search, allowed, error_of, Best, nothing, best, consider}
use Rattle.motion.specs.Sum.{row_error, vector_sum, consider_early, DroppedEarly}

module _ (g : Search) (v : Svq1Mv) where
  -- the absolute error is the sum of all rows'
  error_rows : error_of g v ≡ sum (row_error g v) g.side
  unfolding error_of row_error
  error_rows =
      let n : ℕ = g.side in
      let m : List ℕ = moved_block g.reference n g.x g.y v in
      let all : length m ≤ n * n = omega (arith, length_moved g.reference n g.x g.y v) in
      let rest : sad (drop (n * n) g.target) (drop (n * n) m) ≡ 0 = ap (sad (drop (n * n) g.target)) (drop_of_length-le m all) ∙ sad-none (drop (n * n) g.target) in
      omega (arith, sad-rows n n g.target m, rest)

  module _ (found : Option ℕ) where
    as_whole : beaten found (vector_sum g v found).sum ≡ beaten found (error_of g v)
    unfolding vector_sum
    as_whole = rw error_rows (rows_taken (row_error g v) found g.side).as_whole

    whole : beaten found (vector_sum g v found).sum ≡ false → vector_sum g v found ≡ record { sum = error_of g v; rows = g.side }
    unfolding vector_sum
    whole h = rw error_rows ((rows_taken (row_error g v) found g.side).whole h)

  -- where it is not beaten it is below, and the whole
  same : (f : Best) → consider_early g v f ≡ consider g v f
  unfolding consider_early consider
  same nothing = rw (whole none refl) refl
  same (best w b) = go (leb b (error_of g v)) refl
    where
      and_no : (a : Bool) → (a && false) ≡ false
      and_no true = refl
      and_no false = refl

      go : (t : Bool) → leb b (error_of g v) ≡ t
          → pick (allowed g v && not (leb b (vector_sum g v (some b)).sum)) (best v (vector_sum g v (some b)).sum) (best w b)
          ≡ pick (allowed g v && ltb (error_of g v) b) (best v (error_of g v)) (best w b)
      go true e =
          let h : b ≤ error_of g v = leb-true _ _ e in
          simp (as_whole (some b) ∙ e, le-ltb (error_of g v) b h, and_no (allowed g v)) refl
      go false e =
          let h = leb-false b (error_of g v) e in
          simp (whole (some b) (as_whole (some b) ∙ e), e, lt-ltb (error_of g v) b h) refl

  pub dropped_early : DroppedEarly g v
  unfolding vector_sum
  dropped_early = record { rows_taken = λ found. rows_taken (row_error g v) found g.side; as_whole = as_whole; whole = whole; finds_the_same = same }
