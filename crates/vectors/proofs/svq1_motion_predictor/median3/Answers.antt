-- std's least and greatest numbers are the definition's.
use Rattle.std.proofs.Common.{◌≡◌, arith, ℤ}
use Rattle.std.proofs.lemmas.Int.{ints, to_z-of_z}
use Rattle.std.specs.Int.{int_min, int_max}
use Rattle.vectors.specs.Vectors.{min_z, max_z, median}
use Rattle.vectors.proofs.svq1_motion_predictor.median3.Goals as goal

min_is : (a b : ℤ) → int_min a b ≡ min_z a b
min_is a b = grind (arith, ints)

max_is : (a b : ℤ) → int_max a b ≡ max_z a b
max_is a b = grind (arith, ints)

pub returns : goal.returns
unfolding median
returns c = grind (arith, to_z-of_z, min_is, max_is)
