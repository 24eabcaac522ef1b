-- The number met in the match is the level, and what lies before it is summed up. Assumes nothing.
use mathlib.Core.Path.{◌≡◌}
use Rattle.codebook.specs.Raster.{raster_start}
use borrow.Author.Rules.{rules}
use Rattle.codebook.proofs.svq1_codebook.raster_start.Goals as goal

pub returns-in-0 : goal.returns-in-0
unfolding raster_start
returns-in-0 c =
    let e : c.args.d ≡ 0 = search rules in
    rw e

pub returns-in-1 : goal.returns-in-1
unfolding raster_start
returns-in-1 c =
    let e : c.args.d ≡ 1 = search rules in
    rw e

pub returns-in-2 : goal.returns-in-2
unfolding raster_start
returns-in-2 c =
    let e : c.args.d ≡ 2 = search rules in
    rw e

pub returns-in_default : goal.returns-in_default
unfolding raster_start
returns-in_default c =
    let e : c.args.d ≡ 3 = search rules in
    rw e
