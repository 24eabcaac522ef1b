-- The two calls, and the claim of what they leave. Assumes nothing.
use mathlib.Core.Path.{refl}
use native.Mathlib.Omega.{arith}
use Rattle.bits.specs.Basics.{Bytes}
use Rattle.macroblock.specs.Macroblock.{Given}
use Rattle.macroblock_choice.specs.ChosenNeeds.{task_by}
use Rattle.macroblock.specs.Choice.{Task}
use Rattle.macroblock.specs.MacroblockNeeds.{given_by}
use Rattle.claim.specs.RoundTrip.{trip_by}
use Rattle.claim.specs.RoundTripLaws.{tripped}
use Rattle.macroblock.specs.Slices.{slices_by, lent_by}
use Rattle.claim.proofs.round_trip_inter_plane.Goals as goal

pub returns : goal.returns
returns c =
    let read = c in
    let wrote = read in
    let a = wrote.args in
    let g : Given = given_by a.canvas a.reference.now a.book.now a.codebook.now in
    let t : Task = task_by a.source.now a.settings in
    let source : Bytes a.source.now = λ k. omega (arith, wrote.shared_slice_known-1.given k) in
    let reference : Bytes a.reference.now = λ k. omega (arith, wrote.shared_slice_known-2-1.given k) in
    let w = wrote.encode_inter_plane_stated-written in
    let r = read.decode_inter_plane-read in
    tripped g t a.start (trip_by (lent_by a.out.now (slices_by a.recon.now a.vx.now a.vy.now)) a.stated.now (slices_by a.back.now a.backx.now a.backy.now)) _ _
    (trip_by (lent_by _ (slices_by w.new.recon w.new.vx w.new.vy)) _
    (slices_by r.new.recon r.new.vx r.new.vy))
    refl (record { source = source; reference = reference }) w.ensures r.ensures
