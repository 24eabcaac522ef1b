use Rattle.macroblock_choice.specs.ChosenNeeds.{task_in}
use Rattle.macroblock.specs.Slices.{slices_by, lent_by}
use Rattle.macroblock.specs.MacroblockNeeds.{given_by}
use Rattle.macroblock_enc.specs.LimitForms.{limit_of}
use Rattle.plane_enc.specs.Stated.{Telling}
use Rattle.plane_enc.specs.WriterNeeds.{Underway}
use Rattle.plane_enc.proofs.svq1_enc_inter.inner.write_blocks.Given as goal

abbrev pub invariant-loop-k : goal.invariant-loop-k
invariant-loop-k l =
    Underway (given_by l.canvas l.reference l.book l.codebook) (task_in l.source l.settings (limit_of l.limit)) l.start (lent_by l.initial.out (slices_by l.initial.recon l.initial.vx l.initial.vy)) (lent_by l.out (slices_by l.recon l.vx l.vy)) l.k l.at l.bits l.error
    × Telling (given_by l.canvas l.reference l.book l.codebook) (task_in l.source l.settings (limit_of l.limit)) l.start (lent_by l.initial.out (slices_by l.initial.recon l.initial.vx l.initial.vy)) l.initial.stated (slices_by l.recon l.vx l.vy) l.stated l.k l.bits
