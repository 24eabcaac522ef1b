-- A leaf is painted, and any other block shows nothing. Assumes nothing.
use Rattle.tree_samples.specs.RebuildNeedsLaws.{nothing_painted, node_leaf, node_painted}
use Rattle.tree.specs.declared.svq1_enc_tree.TreeNode.{TreeNode}
use Rattle.tree.specs.NodeForms.{node_of, node_as}
use mathlib.Core.Logic.{inl, inr}
use mathlib.Core.Path.{ap}
use Rattle.book.specs.Level.{level_number}
use Rattle.tree_samples.proofs.svq1_enc_tree.inner.rebuild.paint_node.Goals as goal

pub paint_code-requires : goal.paint_code-requires
paint_code-requires c =
    let s = c in
    node_leaf s.args.half _ _ _ _ _ _ _ s.requires _ (ap (λ (n : TreeNode). node_as n s.args.b.stages) c.in-Leaf.is)

pub returns-in-Off : goal.returns-in-Off
returns-in-Off c =
    let a = c.args in
    nothing_painted a.s (level_number a.level) a.i a.raised.now a.predictor.now _ a.half (node_of a.b) (inl (ap (λ (n : TreeNode). node_as n a.b.stages) c.in-Off.is))

pub returns-in-Split : goal.returns-in-Split
returns-in-Split c =
    let a = c.args in
    nothing_painted a.s (level_number a.level) a.i a.raised.now a.predictor.now _ a.half (node_of a.b) (inr (ap (λ (n : TreeNode). node_as n a.b.stages) c.in-Split.is))

pub returns-in-Leaf : goal.returns-in-Leaf
returns-in-Leaf c =
    let a = c.args in
    node_painted a.s (level_number a.level) a.i a.raised.now a.predictor.now _ _ a.half (node_of a.b) _ (ap (λ (n : TreeNode). node_as n a.b.stages) c.in-Leaf.is) c.paint_code.ensures
