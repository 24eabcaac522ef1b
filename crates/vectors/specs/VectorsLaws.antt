-- Laws of vectors: a codable vector's difference has a code and gives the vector back; predictions stay in -32..31.
-- Assumes nothing.
use Rattle.std.specs.Prelude.{◌≡◌, refl, Option, Some, None, Bool, true, false, ℕ, suc, ◌+◌, ◌-◌, ◌≤◌, ◌<◌, leb, ℤ, pos, negsuc, ◌+ℤ◌, ◌-ℤ◌}
use Rattle.std.proofs.Common.{ap, ◌∙◌, arith, leb-true, le-leb, lt-ltb, le-ltb}
use Rattle.std.proofs.Math.IntN.{+ℤ_comm, -ℤ-+ℤ_cancel}
use Rattle.std.specs.Int.Signed.{mag, lt_z}
use Rattle.bits.specs.Basics.{pick}
use Rattle.bits.specs.BasicsLaws.{both_true}
use Rattle.vectors.specs.declared.svq1_motion_predictor.Svq1Mv.{Svq1Mv}
use Rattle.vectors.specs.Vectors.{zero_mv, min_z, max_z, median, median_mv, predicted, clipped, final_mv, difference_mv, in_range, codable, place_of, difference_at}

-- ---- in -32..31
abbrev pub InRange : ℤ → Type 0
InRange z = in_range z ≡ true

pub range_pos : (n : ℕ) → InRange (pos n) → n ≤ 31
range_pos n e = leb-true n 31 e

pub range_neg : (n : ℕ) → InRange (negsuc n) → n ≤ 31
range_neg n e = leb-true n 31 (both_true (leb n 31) true e).0

pub pos_in : (n : ℕ) → n ≤ 31 → InRange (pos n)
pos_in n h = le-leb n 31 h

pub neg_in : (n : ℕ) → n ≤ 31 → InRange (negsuc n)
neg_in n h = rw (le-leb n 31 h)

-- a difference has a code, and its place gives it back
pub place_lt : (z : ℤ) → InRange z → place_of z < 64
place_lt (pos n) h = omega (arith, range_pos n h)
place_lt (negsuc n) h = let l = range_neg n h in rw (le-ltb 32 (suc n) (omega arith)) (omega arith)

pub difference_place_lem : (z : ℤ) → InRange z → difference_at (place_of z) ≡ z
difference_place_lem (pos n) h = rw (le-ltb (n + 32) 32 (omega arith)) (ap pos (omega arith))
difference_place_lem (negsuc n) h =
    let l = range_neg n h in
    rw (le-ltb 32 (suc n) (omega arith), lt-ltb (32 - suc n) 32 (omega arith)) (ap negsuc (omega arith))

clip_in : (z : ℤ) → InRange z → clipped z ≡ z
clip_in (pos n) h = ap pos (omega (arith, range_pos n h))
clip_in (negsuc n) h = ap negsuc (omega (arith, range_neg n h))

-- ---- codable
pub record Codable (p v : Svq1Mv) : Type 0 where
  pub x_in : InRange v.x
  pub y_in : InRange v.y
  pub dx_in : InRange (v.x -ℤ p.x)
  pub dy_in : InRange (v.y -ℤ p.y)

pub is_codable : (p v : Svq1Mv) → codable p.x v.x ≡ true → codable p.y v.y ≡ true → Codable p v
unfolding codable
is_codable p v e f =
    let a = both_true (in_range v.x) (in_range (v.x -ℤ p.x)) e in
    let b = both_true (in_range v.y) (in_range (v.y -ℤ p.y)) f in
    record { x_in = a.0; y_in = b.0; dx_in = a.1; dy_in = b.1 }

-- ---- both components in -32..31
pub record Inside (v : Svq1Mv) : Type 0 where
  pub x_in : InRange v.x
  pub y_in : InRange v.y

-- a vector comes back from its difference
back : (p v : ℤ) → InRange v → clipped (p +ℤ (v -ℤ p)) ≡ v
back p v h = ap clipped (+ℤ_comm p (v -ℤ p) ∙ -ℤ-+ℤ_cancel v p) ∙ clip_in v h

pub final_back : (p v : Svq1Mv) → Inside v → final_mv p (difference_mv p v).x (difference_mv p v).y ≡ v
final_back p v h = λ i. record { x = back p.x v.x h.x_in i; y = back p.y v.y h.y_in i }

-- and a difference from its places in the vector table
pub places_back : (d : Svq1Mv) → Inside d → ◌≡◌ {A = Svq1Mv} (record { x = difference_at (place_of d.x); y = difference_at (place_of d.y) }) d
places_back d h = λ i. record { x = difference_place_lem d.x h.x_in i; y = difference_place_lem d.y h.y_in i }

pub codable_inside : (p v : Svq1Mv) → Codable p v → Inside v
codable_inside p v c = record { x_in = c.x_in; y_in = c.y_in }

pub difference_inside : (p v : Svq1Mv) → Codable p v → Inside (difference_mv p v)
difference_inside p v c = record { x_in = c.dx_in; y_in = c.dy_in }

pub zero_inside : Inside zero_mv
zero_inside = record { x_in = refl; y_in = refl }

-- ---- a prediction from vectors in -32..31 is in -32..31
-- an absent neighbour too
abbrev pub InsideIf : Option Svq1Mv → Type 0
InsideIf None = Unit
InsideIf (Some v) = Inside v

pick_in : (f : Bool) (a b : ℤ) → InRange a → InRange b → InRange (pick f a b)
pick_in true a b h k = h
pick_in false a b h k = k

min_in : (a b : ℤ) → InRange a → InRange b → InRange (min_z a b)
min_in a b h k = pick_in (lt_z a b) a b h k

max_in : (a b : ℤ) → InRange a → InRange b → InRange (max_z a b)
max_in a b h k = pick_in (lt_z a b) b a k h

median_in : (a b c : ℤ) → InRange a → InRange b → InRange c → InRange (median a b c)
unfolding median
median_in a b c h k l = max_in (min_z a b) (min_z (max_z a b) c) (min_in a b h k) (min_in (max_z a b) c (max_in a b h k) l)

median_mv_in : (a b c : Svq1Mv) → Inside a → Inside b → Inside c → Inside (median_mv a b c)
median_mv_in a b c h k l =
    record { x_in = median_in a.x b.x c.x h.x_in k.x_in l.x_in; y_in = median_in a.y b.y c.y h.y_in k.y_in l.y_in }

pub predicted_in : (a b c : Option Svq1Mv) → InsideIf a → InsideIf b → InsideIf c → Inside (predicted a b c)
unfolding predicted
predicted_in None None None h k l = zero_inside
predicted_in (Some a) None None h k l = h
predicted_in None (Some b) None h k l = k
predicted_in None None (Some c) h k l = l
predicted_in (Some a) (Some b) None h k l = median_mv_in a b zero_mv h k zero_inside
predicted_in (Some a) None (Some c) h k l = median_mv_in a zero_mv c h zero_inside l
predicted_in None (Some b) (Some c) h k l = median_mv_in zero_mv b c zero_inside k l
predicted_in (Some a) (Some b) (Some c) h k l = median_mv_in a b c h k l

-- it fits in 32 bits
pub difference_small : (d : ℤ) → InRange d → mag d < 2147483648
difference_small (pos n) h = omega (arith, range_pos n h)
difference_small (negsuc n) h = omega (arith, range_neg n h)
