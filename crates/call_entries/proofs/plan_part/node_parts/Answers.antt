-- One more block each turn. Assumes nothing.
use mathlib.Core.Path.{◌∙◌, sym, ap, refl}
use Rattle.tree.specs.NodeForms.{tree_of}
use Rattle.tree.specs.WalkNeedsLaws.{tree_at, tree-length}
use Rattle.call_entries.specs.Node.{node_part}
use Rattle.call_entries.specs.PlanLaws.{listed_more, listed}
use native.Mathlib.Omega.{arith}
use borrow.Author.Rules.{rules}
use Rattle.call_entries.proofs.plan_part.node_parts.Goals as goal

pub loop-i-init : goal.loop-i-init
loop-i-init c = record { upto = omega arith; long = refl; front = refl }

pub loop-i-preserved : goal.loop-i-preserved
loop-i-preserved c =
    let a = c.args in
    let l = c.loop-i in
    listed_more (tree_of a.blocks) (tree-length a.blocks ∙ search rules) l.nodes l.i l.invariant _ c.loop-i-test.true (c.node_part.ensures ∙ ap node_part (sym (tree_at a.blocks l.i)))

pub returns : goal.returns
returns c =
    let a = c.args in
    let l = c.loop-i in
    listed (tree_of a.blocks) (tree-length a.blocks ∙ search rules) l.nodes l.i l.invariant c.loop-i-test.false
