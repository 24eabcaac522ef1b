-- The motion search: candidates in their order, which are tried, which one stays, and its refusals (document 01, `svq1_enc_inter.rs`, refusals 1, 3, 4, 9, 23).
use Rattle.std.specs.Prelude.{ℕ, zero, suc, Option, Some, None, ◌+◌, ◌-◌, ◌*◌, ◌/◌, ◌%◌, min, Bool, true, ◌&&◌, ◌||◌, List, eqb, ltb, length, ℤ, pos, ◌+ℤ◌}
use Rattle.std.proofs.Math.IntN.{sub_ℕ}
use Rattle.std.specs.Int.Signed.{lt_z, le_z, shr_z}
use Rattle.bits.specs.Basics.{pick, or_else, unless}
use Rattle.bits.specs.Refusals.{Answer, done, refused}
use Rattle.bits.specs.Calls.{unless_refused}
use Rattle.vectors.specs.declared.svq1_motion_predictor.Svq1Mv.{Svq1Mv}
use Rattle.vectors.specs.Vectors.{zero_mv, in_range, codable}
use Rattle.canvas.specs.Canvas.{Canvas, size_refusal, canvas_refusal}
use Rattle.compensation.specs.Compensation.{moved_block}
use Rattle.compensation.specs.Error.{sad}

-- what a search is asked with: a block of side × side samples at (x, y) of a plane whose visible size is width × height
pub record Search : Type 0 where
  pub reference : Canvas
  pub width : ℕ
  pub height : ℕ
  pub target : List ℕ
  pub side : ℕ
  pub x : ℕ
  pub y : ℕ
  pub predictor : Svq1Mv
  pub radius : ℕ

-- on one axis, in the window: place + floor(v/2) is at least 0, and the lesser of the block's last place and the visible size - 1, plus floor((v+1)/2), is below the visible size
unfoldable pub in_window : ℕ → ℕ → ℕ → ℤ → Bool
in_window side place size v =
    le_z (pos 0) (pos place +ℤ shr_z v 2) && lt_z (pos (min (place + side - 1) (size - 1)) +ℤ shr_z (v +ℤ pos 1) 2) (pos size)

-- a vector may be tried: codable and in the window on each axis
unfoldable pub allowed : Search → Svq1Mv → Bool
allowed g v =
    (codable g.predictor.x v.x && in_window g.side g.x g.width v.x)
    && (codable g.predictor.y v.y && in_window g.side g.y g.height v.y)

unfoldable pub error_of : Search → Svq1Mv → ℕ
error_of g v = sad g.target (moved_block g.reference g.side g.x g.y v)

-- the best so far: nothing yet, or a vector with its absolute error
pub data Best : Type 0 where
  nothing : Best
  best : Svq1Mv → ℕ → Best

-- only a strictly lower absolute error replaces
abbrev pub lowers : ℕ → Best → Bool
lowers e nothing = true
lowers e (best v b) = ltb e b

unfoldable pub consider : Search → Svq1Mv → Best → Best
consider g v f = pick (allowed g v && lowers (error_of g v) f) (best v (error_of g v)) f

-- ---- full-sample vectors: 2 (floor(p/2) + f) on each axis, f from -radius to radius
unfoldable pub full_at : ℤ → ℕ → ℕ → ℤ
full_at p radius k = let z = shr_z p 2 +ℤ sub_ℕ k radius in z +ℤ z

-- the first n of the row with vertical component y
unfoldable pub row_to : Search → ℤ → Best → ℕ → Best
row_to g y f zero = f
row_to g y f (suc n) = consider g (record { x = full_at g.predictor.x g.radius n; y = y }) (row_to g y f n)

-- the first n rows
unfoldable pub rows_to : Search → Best → ℕ → Best
rows_to g f zero = f
rows_to g f (suc n) = row_to g (full_at g.predictor.y g.radius n) (rows_to g f n) (2 * g.radius + 1)

-- zero first, then row by row
unfoldable pub full_search : Search → Best
full_search g = rows_to g (consider g zero_mv nothing) (2 * g.radius + 1)

-- ---- half-sample neighbours, row by row, of the best of these, of zero if there is none
abbrev pub centre : Best → Svq1Mv
centre nothing = zero_mv
centre (best v e) = v

-- the first n of the nine places around v, its own left out
unfoldable pub around_to : Search → Svq1Mv → Best → ℕ → Best
around_to g v f zero = f
around_to g v f (suc n) =
    pick (eqb n 4) (around_to g v f n) (consider g (record { x = v.x +ℤ sub_ℕ (n % 3) 1; y = v.y +ℤ sub_ℕ (n / 3) 1 }) (around_to g v f n))

unfoldable pub search_best : Search → Best
search_best g = let f = full_search g in around_to g (centre f) f 9

-- the vector found; none is 23
abbrev pub vector_of : Best → Option Svq1Mv
vector_of nothing = None
vector_of (best v e) = Some v

unfoldable pub searched : Search → Option Svq1Mv
searched g = vector_of (search_best g)

-- ---- refusals
-- 9: side not 8 or 16, place off that grid or canvas, target length not side squared, predictor outside -32..31
unfoldable pub search_ok : Search → Bool
search_ok g =
    ((eqb g.side 8 || eqb g.side 16) && (eqb (g.x % g.side) 0 && eqb (g.y % g.side) 0))
    && ((ltb g.x g.reference.stride && ltb g.y g.reference.rows)
    && (eqb (length g.target) (g.side * g.side) && (in_range g.predictor.x && in_range g.predictor.y)))

-- for what came in; 0 for none
unfoldable pub search_refusal : Search → ℕ
search_refusal g =
    or_else (size_refusal g.width g.height)
    (or_else (canvas_refusal g.width g.height g.reference) (unless (search_ok g) 9))

-- 23: no vector tried is codable and in the window
abbrev pub vector_answer : Option Svq1Mv → Answer Svq1Mv
vector_answer None = refused 23
vector_answer (Some v) = done v

-- the search as a call
unfoldable pub search_answer : Search → Answer Svq1Mv
search_answer g = unless_refused (search_refusal g) (vector_answer (searched g))
