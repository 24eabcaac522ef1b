-- Refused, or written to its end and told. Assumes nothing.
use mathlib.Core.Path.{refl, sym}
use native.Mathlib.Omega.{arith}
use Rattle.bits.specs.Bits.{bits_of}
use Rattle.macroblock.specs.Macroblock.{Given}
use Rattle.macroblock.specs.Choice.{Task}
use Rattle.macroblock_choice.specs.ChosenNeeds.{task_by}
use Rattle.macroblock.specs.Slices.{Slices, slices_by, Lent, lent_by}
use Rattle.macroblock.specs.MacroblockNeeds.{given_by}
use Rattle.plane.specs.RefusalsLaws.{write_accepted}
use Rattle.plane_enc.specs.StatedLaws.{in_none}
use Rattle.plane_enc.specs.WriterNeedsLaws.{call_refused, call_written}
use Rattle.plane_enc.proofs.svq1_enc_inter.encode_inter_plane_stated.Goals as goal

pub returns-in-Err : goal.returns-in-Err
returns-in-Err c =
    let a = c.args in
    let g : Given = given_by a.canvas a.reference.now a.book.now a.codebook.now in
    let t : Task = task_by a.source.now a.settings in
    let l : Lent = lent_by a.out.now (slices_by a.recon.now a.vx.now a.vy.now) in
    record {
      written = call_refused g t a.start l _ c.in-Err.ensures;
      stated = sym (in_none g t (bits_of l.out) a.start l.slices a.stated.now);
    }

pub write_accepted-requires : goal.write_accepted-requires
write_accepted-requires c =
    let a = c.args in
    let g : Given = given_by a.canvas a.reference.now a.book.now a.codebook.now in
    let u : Slices = slices_by a.recon.now a.vx.now a.vy.now in
    let w = write_accepted g u _ a.start _ (sym c.in-Ok.ensures) in
    (w.0, w.1, record { skips_rest = refl; few = omega arith })

pub returns-in-Ok : goal.returns-in-Ok
returns-in-Ok c =
    let a = c.args in
    let g : Given = given_by a.canvas a.reference.now a.book.now a.codebook.now in
    let t : Task = task_by a.source.now a.settings in
    let l : Lent = lent_by a.out.now (slices_by a.recon.now a.vx.now a.vy.now) in
    let w = c.write_accepted in
    record {
      written = call_written g t a.start l _ _ (sym c.in-Ok.ensures) w.ensures.written;
      stated = w.ensures.stated;
    }
