-- Each macroblock is one step of the run; what is left of it gives the whole. Assumes nothing.
use mathlib.Core.Path.{◌≡◌}
use Prim.Native.Nat.{◌*◌, ◌/◌, ◌<◌}
use Rattle.macroblock.specs.Macroblock.{Given}
use Rattle.macroblock.specs.Slices.{Slices, slices_by}
use Rattle.macroblock.specs.MacroblockNeeds.{given_by}
use Rattle.plane.specs.Plane.{count}
use Rattle.plane.specs.RefusalsLaws.{count_by}
use Rattle.plane_dec.specs.ReaderNeedsLaws.{turn, stop_early, stop_last}
use native.Mathlib.Omega.{arith}
use Rattle.plane_dec.proofs.svq1_plane.inner.read_blocks.Goals as goal

pub returns-in-Err : goal.returns-in-Err
returns-in-Err c =
    let a = c.args in
    let g : Given = given_by a.canvas a.reference.now a.book.now a.codebook.now in
    let u : Slices = slices_by a.recon.now a.vx.now a.vy.now in
    let l = c.loop-k in
    let h : l.k < count g = rw (count_by g a.raised.now c.requires.ok) at c.loop-k-test.true in
    stop_early g a.raised.now a.bytes.now a.start u c.requires _ l.k l.at l.invariant _ h _ c.in-Err.ensures

pub loop-k-preserved : goal.loop-k-preserved
loop-k-preserved c =
    let a = c.args in
    let g : Given = given_by a.canvas a.reference.now a.book.now a.codebook.now in
    let u : Slices = slices_by a.recon.now a.vx.now a.vy.now in
    let l = c.loop-k in
    let h : l.k < count g = rw (count_by g a.raised.now c.requires.ok) at c.loop-k-test.true in
    turn g a.raised.now a.bytes.now a.start u c.requires _ l.k l.at l.invariant _ h _ c.in-Ok.ensures

pub returns : goal.returns
returns c =
    let a = c.args in
    let g : Given = given_by a.canvas a.reference.now a.book.now a.codebook.now in
    let u : Slices = slices_by a.recon.now a.vx.now a.vy.now in
    let l = c.loop-k in
    let all : l.k ≡ a.canvas.rows / 16 * (a.canvas.stride / 16) = omega arith in
    rw all at (stop_last g a.raised.now a.bytes.now a.start u c.requires _ l.k l.at l.invariant (rw (count_by g a.raised.now c.requires.ok) at c.loop-k-test.false))
