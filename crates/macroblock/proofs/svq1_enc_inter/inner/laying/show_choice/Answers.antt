-- The reference block, or the tree over its baseline. Assumes nothing.
use Rattle.tree.specs.NodeForms.{tree_of}
use Rattle.macroblock.specs.MotionForms.{motion_of}
use Rattle.macroblock.specs.LayLaws.{stands_by, shows_skip, shows_coded}
use Rattle.macroblock.proofs.svq1_enc_inter.inner.laying.show_choice.Goals as goal

pub take_block-requires : goal.take_block-requires
take_block-requires c = let s = c in (stands_by _ _ _ s.requires.0.place, s.requires.2)

pub returns-then-skip : goal.returns-then-skip
returns-then-skip c =
    let s = c in
    let a = s.args in
    shows_skip a.canvas a.reference.now a.raised.now a.k a.skip (motion_of a.motion a.vectors) (tree_of a.blocks) _ c.if-skip.true s.requires.0.place c.take_block.ensures

pub show_coded-requires : goal.show_coded-requires
show_coded-requires c =
    let s = c in
    let p = s.requires.0 in
    (record { place = p.place; copy = p.copy; sound = p.sound c.if-skip.false }, s.requires.1, s.requires.2)

pub returns : goal.returns
returns c =
    let a = c.args in
    shows_coded a.canvas a.reference.now a.raised.now a.k a.skip (motion_of a.motion a.vectors) (tree_of a.blocks) _ c.if-skip.false c.show_coded.ensures
