-- What is shown, and then laid. Assumes nothing.
use Rattle.tree.specs.NodeForms.{tree_of}
use Rattle.macroblock.specs.MotionForms.{motion_of}
use Rattle.macroblock.specs.LayingNeeds.{choice_by}
use Rattle.macroblock.specs.Slices.{slices_by}
use Rattle.macroblock.specs.LayLaws.{lay_asks, lays}
use Rattle.macroblock.proofs.svq1_enc_inter.inner.laying.lay_shown.Goals as goal

pub lay_block-requires : goal.lay_block-requires
lay_block-requires c =
    let s = c in
    lay_asks _ _ _ _ s.requires.laying

pub returns : goal.returns
returns c =
    let s = c in
    let a = s.args in
    lays a.canvas a.k a.vectors (slices_by a.recon.now a.vx.now a.vy.now) s.requires.laying a.reference.now a.raised.now (choice_by a.skip (motion_of a.motion a.vectors) (tree_of a.blocks)) _ _
    c.show_choice.ensures c.lay_block.ensures
