-- Motion vectors in half samples: predictor, difference, final vector (document 01, `svq1_motion_predictor.rs`, "The book", "Reading").
use Rattle.std.specs.Prelude.{ℕ, min, Option, Some, None, Bool, ◌&&◌, ℤ, pos, negsuc, ◌+ℤ◌, ◌-ℤ◌}
use Rattle.std.proofs.Math.IntN.{sub_ℕ}
use Rattle.std.specs.Int.Signed.{lt_z, le_z}
use Rattle.bits.specs.Basics.{pick, natural}
use Rattle.vectors.specs.declared.svq1_motion_predictor.Svq1Mv.{Svq1Mv}

abbrev pub zero_mv : Svq1Mv
zero_mv = record { x = pos 0; y = pos 0 }

abbrev pub min_z : ℤ → ℤ → ℤ
min_z a b = pick (lt_z a b) a b

abbrev pub max_z : ℤ → ℤ → ℤ
max_z a b = pick (lt_z a b) b a

-- the middle one of three numbers
unfoldable pub median : ℤ → ℤ → ℤ → ℤ
median a b c = max_z (min_z a b) (min_z (max_z a b) c)

abbrev pub median_mv : Svq1Mv → Svq1Mv → Svq1Mv → Svq1Mv
median_mv a b c = record { x = median a.x b.x c.x; y = median a.y b.y c.y }

-- from left, top and top right. No neighbour: zero. One: that vector. Else the median by component, zero for a missing one
unfoldable pub predicted : Option Svq1Mv → Option Svq1Mv → Option Svq1Mv → Svq1Mv
predicted None None None = zero_mv
predicted (Some a) None None = a
predicted None (Some b) None = b
predicted None None (Some c) = c
predicted (Some a) (Some b) None = median_mv a b zero_mv
predicted (Some a) None (Some c) = median_mv a zero_mv c
predicted None (Some b) (Some c) = median_mv zero_mv b c
predicted (Some a) (Some b) (Some c) = median_mv a b c

-- clipped to -32..31
abbrev pub clipped : ℤ → ℤ
clipped (pos n) = pos (min 31 n)
clipped (negsuc n) = negsuc (min 31 n)

-- the vector of a predictor and a difference (`final_motion_vector`)
abbrev pub final_mv : Svq1Mv → ℤ → ℤ → Svq1Mv
final_mv p dx dy = record { x = clipped (p.x +ℤ dx); y = clipped (p.y +ℤ dy) }

-- a vector's difference from its predictor
abbrev pub difference_mv : Svq1Mv → Svq1Mv → Svq1Mv
difference_mv p v = record { x = v.x -ℤ p.x; y = v.y -ℤ p.y }

-- in -32..31
abbrev pub in_range : ℤ → Bool
in_range z = le_z (negsuc 31) z && le_z z (pos 31)

-- a component is codable against its prediction: it and its difference are in -32..31
unfoldable pub codable : ℤ → ℤ → Bool
codable p v = in_range v && in_range (v -ℤ p)

-- a difference's position in the vector table is the difference + 32, and back
abbrev pub place_of : ℤ → ℕ
place_of d = natural (d +ℤ pos 32)

abbrev pub difference_at : ℕ → ℤ
difference_at k = sub_ℕ k 32
