-- One part of side 16 sets every sample, so nothing of the old ones is left.
use Rattle.std.proofs.Common.{◌∙◌}
use Rattle.canvas.specs.Canvas.{Canvas}
use Rattle.compensation.specs.PartsLaws.{whole-moved}
use Rattle.compensation.proofs.svq1_mc.inner.mc_macroblock.Goals as goal

pub returns : goal.returns
returns c =
    let a = c.args in
    let d : Canvas = record { samples = a.reference.now; stride = a.stride; rows = a.rows } in
    c.mc_part.ensures ∙ whole-moved d a.x a.y a.v a.out.now c.requires.1
