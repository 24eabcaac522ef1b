-- A law of the padded source: each of its samples.
-- Assumes nothing.
use Rattle.std.specs.Prelude.{ℕ, ◌+◌, ◌-◌, ◌*◌, ◌/◌, ◌%◌, ◌<◌, min, ◌≡◌, List, get_or}
use Rattle.std.proofs.Common.{◌∙◌, zero-add}
use Rattle.std.proofs.Math.Arith.{digits_div, digits_mod}
use Rattle.bits.specs.BasicsLaws.{value_at}
use Rattle.canvas.specs.Canvas.{padded16}
use Rattle.compensation.specs.MovedFormsLaws.{place_in}
use Rattle.macroblock.specs.Choice.{padded_source}

-- column x of row y: the source's sample there, or in the last column and row
pub padded_at_lem : (width height : ℕ) (source : List ℕ) (x y : ℕ) → x < padded16 width → y < padded16 height
    → get_or (padded_source width height source) (y * padded16 width + x) 0 ≡ get_or source (min y (height - 1) * width + min x (width - 1)) 0
unfolding padded_source
padded_at_lem width height source x y hx hy =
    value_at (λ p. get_or source (min (p / padded16 width) (height - 1) * width + min (p % padded16 width) (width - 1)) 0) (padded16 width * padded16 height) 0 (y * padded16 width + x) 0
    (place_in x y (padded16 width) (padded16 height) hx hy)
    ∙ rw (zero-add (y * padded16 width + x), digits_div y hx, digits_mod y hx)
