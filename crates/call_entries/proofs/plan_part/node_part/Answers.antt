-- A block by its case. Assumes nothing.
use mathlib.Core.Path.{◌∙◌, sym, ap}
use Rattle.tree.specs.NodeForms.{node_as}
use Rattle.tree.specs.declared.svq1_enc_tree.TreeNode.{TreeNode}
use Rattle.call_entries.specs.Node.{node_part}
use Rattle.call_entries.proofs.plan_part.node_part.Goals as goal

pub returns-in-Off : goal.returns-in-Off
returns-in-Off c =
    let b = c.args.b in
    c.bare_node.ensures ∙ sym (ap (λ (n : TreeNode). node_part (node_as n b.stages)) c.in-Off.is)

pub returns-in-Split : goal.returns-in-Split
returns-in-Split c =
    let b = c.args.b in
    c.bare_node-in-Split.ensures ∙ sym (ap (λ (n : TreeNode). node_part (node_as n b.stages)) c.in-Split.is)

pub returns-in-Leaf : goal.returns-in-Leaf
returns-in-Leaf c =
    let b = c.args.b in
    c.leaf_node.ensures ∙ sym (ap (λ (n : TreeNode). node_part (node_as n b.stages)) c.in-Leaf.is)
