-- Each quarter behind the one before it. Assumes nothing.
use mathlib.Core.Path.{refl}
use Rattle.canvas.specs.Canvas.{Canvas}
use Rattle.macroblock.specs.SampleNeedsLaws.{quarters-moved}
use Rattle.macroblock.proofs.svq1_enc_inter.inner.samples.move_quarters.Goals as goal

pub returns : goal.returns
returns c =
    let s = c in
    let a = s.args in
    let d : Canvas = record { samples = a.reference.now; stride = a.stride; rows = a.rows } in
    quarters-moved d a.x a.y a.vectors _ _ _ _ _ _ _ _ a.out.now s.requires.1 refl refl refl refl c.mc_quarter.ensures c.mc_quarter-2.ensures c.mc_quarter-3.ensures c.mc_quarter-4.ensures
