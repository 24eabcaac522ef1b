-- The root, block 0, and any other block by its parent. Assumes nothing.
use Prim.Native.Nat.{◌-◌, ◌/◌}
use Rattle.tree.specs.WalkNeedsLaws.{tree_at, reached_up}
use Rattle.tree.specs.NodeForms.{tree_of}
use Rattle.tree.specs.TreeBits.{is_split}
use mathlib.Core.Path.{◌∙◌, sym, ap}
use Rattle.tree.proofs.svq1_enc_tree.inner.walk.is_reached.Goals as goal

pub returns-then-i-ne0 : goal.returns-then-i-ne0
returns-then-i-ne0 c =
    let a = c.args in
    c.is_split.ensures ∙ sym (ap is_split (tree_at a.blocks ((a.i - 1) / 2))) ∙ reached_up a.root (tree_of a.blocks) a.i c.if-i-root.false c.if-i-ne0.true
