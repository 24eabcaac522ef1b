-- The levels of the block tree and their blocks' dimensions (document 01, `svq1_blocktree.rs`).
use Rattle.std.specs.Prelude.{ℕ, zero, suc, ◌+◌, ◌*◌, Bool, false, not, ◌≡◌, refl}
use Rattle.bits.specs.Basics.{pick}
use Rattle.book.specs.declared.svq1_blocktree.Svq1Level.{Svq1Level}
use Rattle.book.specs.declared.svq1_blocktree.Svq1Level.TheVariants.{L0, L1, L2, L3, L4, L5}

-- definitions speak of a level by its number, 0 to 5
abbrev pub level_number : Svq1Level → ℕ
level_number L0 = 0
level_number L1 = 1
level_number L2 = 2
level_number L3 = 3
level_number L4 = 4
level_number L5 = 5

-- L1, L3 and L5 are square
abbrev pub square : ℕ → Bool
square zero = false
square (suc d) = not (square d)

-- a square is two parts high, any other block two parts wide
abbrev pub width : ℕ → ℕ
width zero = 4
width (suc d) = pick (square (suc d)) (width d) (width d + width d)

abbrev pub height : ℕ → ℕ
height zero = 2
height (suc d) = pick (square (suc d)) (height d + height d) (height d)

-- samples of a block, and the length of a vector for it
abbrev pub area : ℕ → ℕ
area d = height d * width d

-- that is document 01's table: 4×2, 4×4, 8×4, 8×8, 16×8, 16×16
pub dims : (width 0 ≡ 4) × (height 0 ≡ 2) × (width 1 ≡ 4) × (height 1 ≡ 4) × (width 2 ≡ 8) × (height 2 ≡ 4)
    × (width 3 ≡ 8) × (height 3 ≡ 8) × (width 4 ≡ 16) × (height 4 ≡ 8) × (width 5 ≡ 16) × (height 5 ≡ 16)
dims = (refl, refl, refl, refl, refl, refl, refl, refl, refl, refl, refl, refl)
