-- The motion's baseline, and the tree over it. Assumes nothing.
use mathlib.Core.Path.{ap, ◌∙◌}
use mathlib.Core.List.{[]}
use lib.ListN.{length}
use Rattle.tree.specs.NodeForms.{tree_of}
use Rattle.macroblock.specs.MotionForms.{motion_of}
use Rattle.macroblock.specs.SampleNeedsLaws.{whole-tree, length_baseline, tree-shown}
use Rattle.macroblock.proofs.svq1_enc_inter.inner.samples.show_coded.Goals as goal

pub rebuild-requires : goal.rebuild-requires
rebuild-requires c =
    let s = c in
    let a = s.args in
    whole-tree _ _ _ _ _ _ _ _ _ s.requires.0 (c.half_of-half.ensures a.vectors)
    (ap length (c.baseline_of.ensures [] []) ∙ length_baseline _ _ _) (ap length (rw c.requires.2 at (c.fill.ensures.after (λ y h. h))))

pub returns : goal.returns
returns c =
    let s = c in
    let a = s.args in
    tree-shown a.canvas a.reference.now a.raised.now a.k (motion_of a.motion a.vectors) (tree_of a.blocks) _ _ _ _
    (c.half_of-half.ensures a.vectors) s.requires.0.sound
    c.baseline_of.ensures (rw c.requires.2 at (c.fill.ensures.after (λ y h. h))) c.rebuild.ensures
