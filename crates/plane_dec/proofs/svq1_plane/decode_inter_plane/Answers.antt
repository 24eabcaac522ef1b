-- Refused, or read to its end. Assumes nothing.
use mathlib.Core.Path.{sym}
use Rattle.macroblock.specs.Macroblock.{Given}
use Rattle.macroblock.specs.Slices.{Slices, slices_by}
use Rattle.macroblock.specs.MacroblockNeeds.{given_by}
use Rattle.plane.specs.RefusalsLaws.{read_accepted}
use Rattle.plane_dec.specs.ReaderNeedsLaws.{call_refused, call_read}
use Rattle.plane_dec.proofs.svq1_plane.decode_inter_plane.Goals as goal

pub returns-in-Err : goal.returns-in-Err
returns-in-Err c =
    let a = c.args in
    let g : Given = given_by a.canvas a.reference.now a.book.now a.codebook.now in
    let u : Slices = slices_by a.recon.now a.vx.now a.vy.now in
    call_refused g a.bytes.now a.start u _ c.in-Err.ensures

pub read_accepted-requires : goal.read_accepted-requires
read_accepted-requires c =
    let a = c.args in
    let g : Given = given_by a.canvas a.reference.now a.book.now a.codebook.now in
    let u : Slices = slices_by a.recon.now a.vx.now a.vy.now in
    read_accepted g u _ a.start (sym c.in_default.ensures)

pub returns : goal.returns
returns c =
    let a = c.args in
    let g : Given = given_by a.canvas a.reference.now a.book.now a.codebook.now in
    let u : Slices = slices_by a.recon.now a.vx.now a.vy.now in
    call_read g a.bytes.now a.start u _ _ (sym c.in_default.ensures) c.read_accepted.ensures
