-- The block that a zero vector reads is the macroblock. Assumes nothing.
use mathlib.Core.Path.{◌∙◌}
use Rattle.canvas.specs.Canvas.{Canvas}
use Rattle.macroblock.specs.SampleNeedsLaws.{still_block}
use Rattle.macroblock.proofs.svq1_enc_inter.inner.samples.take_block.Goals as goal

pub mc_macroblock-requires : goal.mc_macroblock-requires
mc_macroblock-requires c = let s = c in (s.requires.0.placed, s.requires.1)

pub returns : goal.returns
returns c =
    let s = c in
    let a = s.args in
    let d : Canvas = record { samples = a.plane.now; stride = a.stride; rows = a.rows } in
    c.mc_macroblock.ensures ∙ still_block d a.cols a.k s.requires.0
