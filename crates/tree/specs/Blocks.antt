-- The 63 blocks of a macroblock's tree by number: level, parts, place, samples (document 01, `TreeNode` and `svq1_blocktree.rs`).
use Rattle.std.specs.Prelude.{ℕ, zero, suc, ◌+◌, ◌-◌, ◌*◌, ◌/◌, ◌%◌, ◌^◌, Bool, List, [], ◌++◌, eqb, ltb, take, drop}
use Rattle.std.proofs.lemmas.List.Edits.{sets}
use Rattle.bits.specs.Basics.{pick}
use Rattle.book.specs.Level.{square, width, height}

-- blocks are numbered level by level from the root 0
abbrev pub block_count : ℕ
block_count = 63

-- the parts of block i
abbrev pub left : ℕ → ℕ
left i = 2 * i + 1

abbrev pub right : ℕ → ℕ
right i = 2 * i + 2

-- the level of block i
abbrev pub level : ℕ → ℕ
level i = pick (ltb i 1) 5 (pick (ltb i 3) 4 (pick (ltb i 7) 3 (pick (ltb i 15) 2 (pick (ltb i 31) 1 0))))

-- the first block of level d: the root of a plan that is made for a block of that level alone
abbrev pub first : ℕ → ℕ
first d = 2 ^ (5 - d) - 1

-- ---- rows of samples in a plane whose rows are s samples apart
-- h rows of w samples from sample `at` on, in raster order
unfoldable pub gather : ℕ → ℕ → ℕ → ℕ → List ℕ → List ℕ
gather s zero w at m = []
gather s (suc h) w at m = take w (drop at m) ++ gather s h w (at + s) m

-- the plane m with h rows of w samples put there
unfoldable pub paint : ℕ → ℕ → ℕ → ℕ → List ℕ → List ℕ → List ℕ
paint s zero w at xs m = m
paint s (suc h) w at xs m = paint s h w (at + s) (drop w xs) (sets m at (take w xs))

-- ---- blocks
-- from a block's first part to its second, where the parts have level d: squares split top and bottom, others left and right
abbrev pub step : ℕ → ℕ → ℕ
step s d = pick (square (suc d)) (s * height d) (width d)

-- where block i, n levels below the root, begins in a plane of stride s
unfoldable pub place_under : ℕ → ℕ → ℕ → ℕ
place_under s zero i = 0
place_under s (suc n) i = place_under s n ((i - 1) / 2) + pick (eqb (i % 2) 0) (step s (4 - n)) 0

unfoldable pub place : ℕ → ℕ → ℕ
place s i = place_under s (5 - level i) i

-- the samples of block i, of level d, in raster order
unfoldable pub block_of : ℕ → ℕ → ℕ → List ℕ → List ℕ
block_of s d i m = gather s (height d) (width d) (place s i) m

-- the plane m with the samples xs at block i
unfoldable pub paint_at : ℕ → ℕ → ℕ → List ℕ → List ℕ → List ℕ
paint_at s d i xs m = paint s (height d) (width d) (place s i) xs m

-- what leaves and splits show, put into a plane leaf by leaf: the recursion of `plan_reconstruction`, at block i of level d
unfoldable pub rebuilt : ℕ → (ℕ → Bool) → (ℕ → List ℕ) → ℕ → ℕ → List ℕ → List ℕ
rebuilt s split shown zero i m = paint_at s zero i (shown i) m
rebuilt s split shown (suc d) i m =
    pick (split i) (rebuilt s split shown d (right i) (rebuilt s split shown d (left i) m)) (paint_at s (suc d) i (shown i) m)
