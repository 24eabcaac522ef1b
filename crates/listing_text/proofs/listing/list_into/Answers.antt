-- The parts that are lent are empty slices of the plane's size.
use native.Mathlib.Omega.{arith}
use mathlib.Core.Path.{sym}
use Prim.Native.Nat.{◌*◌, ◌/◌, ◌≤◌}
use lib.ListN.{length}
use lib.Seq.{length-take-le}
use Rattle.macroblock.specs.Macroblock.{Given}
use Rattle.macroblock.specs.Choice.{Task}
use Rattle.macroblock_choice.specs.ChosenNeeds.{task_by}
use Rattle.macroblock.specs.MacroblockNeeds.{given_by}
use Rattle.listing_text.specs.ListedLaws.{Sizes, sizes, recon_long, vx_long, vy_long, lent_empty}
use Rattle.listing_text.proofs.listing.list_into.Goals as goal
use Rattle.listing_text.proofs.listing.list_into.Goals.{Start}

-- the plane, what is asked of it, its sizes, and how long the program's slices are
abbrev plane : Start → Given
plane e = let a = e.args in given_by a.canvas a.reference.now a.book.now a.codebook.now

abbrev task : Start → Task
task e = task_by e.args.source.now e.args.settings

sized : (e : Start) → Sizes (plane e)
sized e = sizes (plane e) (task e) e.requires.0

samples : (e : Start) → e.args.canvas.stride * e.args.canvas.rows ≤ length e.args.recon.now
samples e = let a = e.args in recon_long (plane e) (task e) e.requires.0 a.out.now a.recon.now a.vx.now a.vy.now a.stated.now e.requires.1

across : (e : Start) → 4 * (e.args.canvas.rows / 16 * (e.args.canvas.stride / 16)) ≤ length e.args.vx.now
across e = let a = e.args in vx_long (plane e) (task e) e.requires.0 a.out.now a.recon.now a.vx.now a.vy.now a.stated.now e.requires.1

down : (e : Start) → 4 * (e.args.canvas.rows / 16 * (e.args.canvas.stride / 16)) ≤ length e.args.vy.now
down e = let a = e.args in vy_long (plane e) (task e) e.requires.0 a.out.now a.recon.now a.vx.now a.vy.now a.stated.now e.requires.1

pub overflow_mul-samples : goal.overflow_mul-samples
overflow_mul-samples c = omega (arith, (sized (goal.at.overflow_mul-samples c).Start).small_area)

pub overflow_mul-vectors : goal.overflow_mul-vectors
overflow_mul-vectors c = let z = sized (goal.at.overflow_mul-vectors c).Start in omega (arith, z.blocks_are, z.few_blocks)

pub overflow_mul-vectors-2 : goal.overflow_mul-vectors-2
overflow_mul-vectors-2 c = let z = sized (goal.at.overflow_mul-vectors-2 c).Start in omega (arith, z.blocks_are, z.few_blocks)

pub slice_bounds-list_written-end : goal.slice_bounds-list_written-end
slice_bounds-list_written-end c = omega (arith, samples (goal.at.slice_bounds-list_written-end c).Start)

pub slice_bounds-list_written-end-2 : goal.slice_bounds-list_written-end-2
slice_bounds-list_written-end-2 c = let e = c in sym (length-take-le _ e.args.recon.now (samples (goal.at.slice_bounds-list_written-end-2 c).Start))

pub slice_bounds-list_written-end-3 : goal.slice_bounds-list_written-end-3
slice_bounds-list_written-end-3 c = omega (arith, across (goal.at.slice_bounds-list_written-end-3 c).Start)

pub slice_bounds-list_written-end-4 : goal.slice_bounds-list_written-end-4
slice_bounds-list_written-end-4 c = let e = c in sym (length-take-le _ e.args.vx.now (across (goal.at.slice_bounds-list_written-end-4 c).Start))

pub slice_bounds-list_written-end-5 : goal.slice_bounds-list_written-end-5
slice_bounds-list_written-end-5 c = omega (arith, down (goal.at.slice_bounds-list_written-end-5 c).Start)

pub slice_bounds-list_written-end-6 : goal.slice_bounds-list_written-end-6
slice_bounds-list_written-end-6 c = let e = c in sym (length-take-le _ e.args.vy.now (down (goal.at.slice_bounds-list_written-end-6 c).Start))

pub list_written-requires : goal.list_written-requires
list_written-requires c =
    let e = c in
    let a = e.args in
    (e.requires.0, lent_empty (plane (goal.at.list_written-requires c).Start) (task (goal.at.list_written-requires c).Start) e.requires.0 a.out.now a.recon.now a.vx.now a.vy.now a.stated.now e.requires.1, e.requires.2)

pub returns : goal.returns
returns c = c.list_written.ensures
