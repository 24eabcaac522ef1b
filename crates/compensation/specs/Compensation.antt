-- The compensated sample and block (document 01, `svq1_mc.rs`).
use Rattle.std.specs.Prelude.{ℕ, ◌+◌, ◌-◌, ◌*◌, ◌/◌, ◌%◌, Bool, List, eqb, ltb, get_or, ℤ, pos, negsuc, ◌+ℤ◌}
use Rattle.std.specs.Int.Signed.{shr_z}
use Rattle.bits.specs.Basics.{pick, values_from}
use Rattle.canvas.specs.Canvas.{Canvas}
use Rattle.vectors.specs.declared.svq1_motion_predictor.Svq1Mv.{Svq1Mv}

abbrev pub even : ℤ → Bool
even (pos n) = eqb (n % 2) 0
even (negsuc n) = eqb (n % 2) 1

-- reads clamp to the canvas: a place, or the nearest of 0 .. size - 1
abbrev pub clamp_to : ℕ → ℤ → ℕ
clamp_to size (pos n) = pick (ltb n size) n (size - 1)
clamp_to size (negsuc n) = 0

unfoldable pub sample_at : Canvas → ℤ → ℤ → ℕ
sample_at c x y = get_or c.samples (clamp_to c.rows y * c.stride + clamp_to c.stride x) 0

-- the means of two and of four samples
abbrev pub mean2 : ℕ → ℕ → ℕ
mean2 a b = (a + b + 1) / 2

abbrev pub mean4 : ℕ → ℕ → ℕ → ℕ → ℕ
mean4 a b c d = (a + b + c + d + 2) / 4

-- the sample at a place in half samples (`sample_halfpel`)
unfoldable pub half_sample : Canvas → ℤ → ℤ → ℕ
half_sample c hx hy =
    let x = shr_z hx 2 in
    let y = shr_z hy 2 in
    let a = sample_at c x y in
    let right = sample_at c (x +ℤ pos 1) y in
    let below = sample_at c x (y +ℤ pos 1) in
    let across = sample_at c (x +ℤ pos 1) (y +ℤ pos 1) in
    pick (even hx) (pick (even hy) a (mean2 a below)) (pick (even hy) (mean2 a right) (mean4 a right below across))

-- the sample of a block at (x, y) that lies j places behind its first, in raster order, moved by a vector
abbrev pub moved_sample : Canvas → ℕ → ℕ → ℕ → Svq1Mv → ℕ → ℕ
moved_sample c side x y v j = half_sample c (pos (2 * (x + j % side)) +ℤ v.x) (pos (2 * (y + j / side)) +ℤ v.y)

-- the block of side × side samples at (x, y), moved by a vector
unfoldable pub moved_block : Canvas → ℕ → ℕ → ℕ → Svq1Mv → List ℕ
moved_block c side x y v = values_from (moved_sample c side x y v) (side * side) 0
