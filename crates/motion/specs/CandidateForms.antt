-- The search as the code holds it: vectors raised to unsigned numbers, a block inside its canvas, the best so far, and the clipped ranges (document 01, `svq1_enc_inter.rs`, over the definitions of Search). What they amount to is in `CandidateFormsLaws` and `ScanLaws`.
use Rattle.std.specs.Prelude.{ℕ, ◌+◌, ◌-◌, ◌*◌, ◌/◌, ◌<◌, ◌≤◌, min, ◌≡◌, Bool, true, false, ◌&&◌, List, leb, ltb, ℤ, length}
use Rattle.std.proofs.Math.IntN.{sub_ℕ}
use Rattle.bits.specs.Basics.{pick}
use Rattle.vectors.specs.declared.svq1_motion_predictor.Svq1Mv.{Svq1Mv}
use Rattle.motion.specs.declared.svq1_enc_inter.inner.Spot.{Spot}
use Rattle.motion.specs.declared.svq1_enc_inter.inner.Candidate.{Candidate}
use Rattle.motion.specs.declared.svq1_enc_inter.inner.Span.{Span}
use Rattle.motion.specs.Search.{Search, Best, nothing, best, centre, around_to}
use Rattle.canvas.specs.Canvas.{largest_side, padded16}
use Rattle.compensation.specs.RowForms.{Sides, no_best}

-- a component is raised by 1024, so that no candidate falls below 0; raised numbers and places stay below the end
abbrev pub lowered : ℕ → ℤ
lowered u = sub_ℕ u 1024

abbrev pub raised_end : ℕ
raised_end = padded16 largest_side + 1024

abbrev pub lowered_mv : ℕ → ℕ → Svq1Mv
lowered_mv ux uy = record { x = lowered ux; y = lowered uy }

-- what is searched for
unfoldable pub spot_search : List ℕ → List ℕ → Spot → Search
spot_search t ref p = record {
  reference = record { samples = ref; stride = p.stride; rows = p.rows };
  width = p.width;
  height = p.height;
  target = t;
  side = p.side;
  x = p.x;
  y = p.y;
  predictor = lowered_mv p.px p.py;
  radius = p.radius;
}

-- a block inside its canvas
pub record MotionReady (t ref : List ℕ) (p : Spot) : Type 0 where
  pub sides : Sides p.side
  pub width_some : 1 ≤ p.width
  pub width_in : p.width ≤ p.stride
  pub stride_most : p.stride ≤ padded16 largest_side
  pub height_some : 1 ≤ p.height
  pub height_in : p.height ≤ p.rows
  pub rows_most : p.rows ≤ padded16 largest_side
  pub x_in : p.x + p.side ≤ p.stride
  pub y_in : p.y + p.side ≤ p.rows
  pub px_low : 992 ≤ p.px
  pub px_high : p.px ≤ 1055
  pub py_low : 992 ≤ p.py
  pub py_high : p.py ≤ 1055
  pub radius_most : p.radius ≤ 255
  pub target_len : length t ≡ p.side * p.side
  pub reference_len : length ref ≡ p.stride * p.rows

-- codable and in the window, over raised numbers
abbrev pub codable_up : ℕ → ℕ → Bool
codable_up p u = (leb 992 u && leb u 1055) && (leb p (u + 32) && leb u (p + 31))

abbrev pub window_up : ℕ → ℕ → ℕ → ℕ → Bool
window_up side place size u = leb 512 (place + u / 2) && ltb (min (place + side - 1) (size - 1) + (u + 1) / 2) (size + 512)

abbrev pub axis_up : ℕ → ℕ → ℕ → ℕ → ℕ → Bool
axis_up side place size p u = codable_up p u && window_up side place size u

-- allowed on both axes
pub record Both (p : Spot) (ux uy : ℕ) : Type 0 where
  pub x : axis_up p.side p.x p.width p.px ux ≡ true
  pub y : axis_up p.side p.y p.height p.py uy ≡ true

-- the best so far; an error of `no_best` or more stands for none
unfoldable pub best_so_far : Candidate → Best
best_so_far b = pick (ltb b.error no_best) (best (lowered_mv b.ux b.uy) b.error) nothing

-- the best so far is codable; it is zero where nothing is found
pub record BestHeld (b : Candidate) : Type 0 where
  pub x_low : 992 ≤ b.ux
  pub x_high : b.ux ≤ 1055
  pub y_low : 992 ≤ b.uy
  pub y_high : b.uy ≤ 1055
  pub x_unset : no_best ≤ b.error → b.ux ≡ 1024
  pub y_unset : no_best ≤ b.error → b.uy ≡ 1024

-- the raised full-sample candidate k of an axis
abbrev pub full_up : ℕ → ℕ → ℕ → ℕ
full_up p radius k = 2 * (p / 2 + k - radius)

-- what a clipped range leaves out is not codable
pub record Spans (p radius : ℕ) (s : Span) : Type 0 where
  pub first : s.from ≤ radius
  pub some : radius < s.to
  pub last : s.to ≤ 2 * radius + 1
  pub before : (k : ℕ) → k < s.from → codable_up p (full_up p radius k) ≡ false
  pub after : (k : ℕ) → s.to ≤ k → k < 2 * radius + 1 → codable_up p (full_up p radius k) ≡ false

-- the places k of low ≤ centre + k - radius ≤ high among 0 .. 2 radius
pub record Clipped (radius low centre high : ℕ) (s : Span) : Type 0 where
  pub first : s.from ≤ radius
  pub some : radius < s.to
  pub last : s.to ≤ 2 * radius + 1
  pub before : (k : ℕ) → k < s.from → centre + k < low + radius
  pub after : (k : ℕ) → s.to ≤ k → k ≤ 2 * radius → high + radius < centre + k

-- the half-sample neighbours of what was found, of zero if nothing was
abbrev pub refined : Search → Best → Best
refined g f = around_to g (centre f) f 9
