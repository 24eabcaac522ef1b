-- The test of the raster order, computed over the constant. Assumes nothing.
use mathlib.Core.Path.{refl}
use Rattle.bits.specs.Basics.{sum}
use Rattle.bits.specs.BasicsLaws.{below}
use Rattle.codebook.specs.Codebook.{raster_of}
use Rattle.codebook.specs.Raster.{raster_start}
use Rattle.codebook.specs.RasterLaws.{number_test, level_test, raster_test, raster_by_test}
use Rattle.codebook.proofs.svq1_codebook.raster_order.Goals as goal

pub returns : goal.returns
unfolding raster_test level_test number_test raster_start raster_of below sum
returns c = raster_by_test _ refl
