-- Laws of the search that upper layers cite: what is found is codable against its predictor and lies in the window.
-- Assumes nothing.
use Rattle.std.specs.Prelude.{◌≡◌, Some, Bool, ◌&&◌, eqb, ℤ}
use Rattle.std.proofs.Math.Path.{refl}
use Prim.Native.Nat.{ℕ, zero, suc, ◌+◌, ◌*◌}
use Rattle.std.proofs.Common.{arith}
use Rattle.std.proofs.Math.Bool.{true, false}
use Rattle.bits.specs.Basics.{pick}
use Rattle.bits.specs.BasicsLaws.{both_true}
use Rattle.vectors.specs.declared.svq1_motion_predictor.Svq1Mv.{Svq1Mv}
use Rattle.vectors.specs.Vectors.{zero_mv, codable}
use Rattle.vectors.specs.VectorsLaws.{Codable, is_codable}
use Rattle.motion.specs.Search.{Search, in_window, allowed, error_of, Best, nothing, best, lowers, consider, row_to, rows_to, full_search, centre, around_to, search_best, vector_of, searched}

-- what has been found so far was allowed
abbrev Kept : Search → Best → Type 0
Kept g nothing = Unit
Kept g (best v e) = allowed g v ≡ true

module _ (g : Search) where
  kept-pick : (a l : Bool) (v : Svq1Mv) (e : ℕ) (f : Best) → allowed g v ≡ a → Kept g f → Kept g (pick (a && l) (best v e) f)
  kept-pick true true v e f h k = h
  kept-pick true false v e f h k = k
  kept-pick false l v e f h k = k

  kept_one : (v : Svq1Mv) (f : Best) → Kept g f → Kept g (consider g v f)
  unfolding consider
  kept_one v f k = kept-pick (allowed g v) (lowers (error_of g v) f) v (error_of g v) f refl k

  kept_row : (n : ℕ) (y : ℤ) (f : Best) → Kept g f → Kept g (row_to g y f n)
  unfolding row_to
  kept_row zero y f k = k
  kept_row (suc n) y f k = kept_one _ (row_to g y f n) (kept_row n y f k)

  kept-rows : (n : ℕ) (f : Best) → Kept g f → Kept g (rows_to g f n)
  unfolding rows_to
  kept-rows zero f k = k
  kept-rows (suc n) f k = kept_row (2 * g.radius + 1) _ (rows_to g f n) (kept-rows n f k)

  kept-around : (n : ℕ) (v : Svq1Mv) (f : Best) → Kept g f → Kept g (around_to g v f n)
  unfolding around_to
  kept-around zero v f k = k
  kept-around (suc n) v f k = by (eqb n 4) (around_to g v f n) _ (kept-around n v f k) (kept_one _ (around_to g v f n) (kept-around n v f k))
    where
      by : (t : Bool) (a b : Best) → Kept g a → Kept g b → Kept g (pick t a b)
      by true a b h k = h
      by false a b h k = k

  kept_best : Kept g (search_best g)
  unfolding search_best full_search
  kept_best = kept-around 9 (centre (full_search g)) (full_search g) (kept-rows (2 * g.radius + 1) (consider g zero_mv nothing) (kept_one zero_mv nothing tt))

  kept-vector : (f : Best) (v : Svq1Mv) → Kept g f → vector_of f ≡ Some v → allowed g v ≡ true
  kept-vector nothing v k e = let z : ◌≡◌ {A = ℕ} 0 1 = cc in absurd (omega arith)
  kept-vector (best u n) v k e = let q : u ≡ v = cc in rw q at k

  pub found_allowed : (v : Svq1Mv) → searched g ≡ Some v → allowed g v ≡ true
  unfolding searched
  found_allowed v e = kept-vector (search_best g) v kept_best e

-- codable, and in the window on each axis
pub record Allowed (g : Search) (v : Svq1Mv) : Type 0 where
  pub codes : Codable g.predictor v
  pub across : in_window g.side g.x g.width v.x ≡ true
  pub down : in_window g.side g.y g.height v.y ≡ true

pub is_allowed : (g : Search) (v : Svq1Mv) → allowed g v ≡ true → Allowed g v
unfolding allowed
is_allowed g v e =
    let b = both_true (codable g.predictor.x v.x && in_window g.side g.x g.width v.x) _ e in
    let x = both_true (codable g.predictor.x v.x) _ b.0 in
    let y = both_true (codable g.predictor.y v.y) _ b.1 in
    record { codes = is_codable g.predictor v x.0 y.0; across = x.1; down = y.1 }

-- a found vector is both
pub found : (g : Search) (v : Svq1Mv) → searched g ≡ Some v → Allowed g v
found g v e = is_allowed g v (found_allowed g v e)
