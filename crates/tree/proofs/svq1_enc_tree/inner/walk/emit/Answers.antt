-- The blocks by number, one behind the other. Assumes nothing.
use Rattle.tree.specs.WalkNeedsLaws.{tree_at, tree-length, emit-begins, emit_ends}
use Rattle.tree.proofs.WalkNeedsLaws.{node_room, emit_turn}
use Rattle.tree.specs.NodeForms.{tree_of}
use mathlib.Core.Path.{◌∙◌, sym}
use borrow.Author.Rules.{rules}
use Rattle.tree.proofs.svq1_enc_tree.inner.walk.emit.Goals as goal

pub loop-i-init : goal.loop-i-init
loop-i-init c =
    let s = c in
    let a = s.args in
    emit-begins a.book.now a.half (tree_of a.blocks) (tree-length a.blocks ∙ search rules) a.out.now a.at s.requires

pub put_node-k-requires : goal.put_node-k-requires
put_node-k-requires c =
    let s = c in
    let a = s.args in
    let l = c.loop-i in
    node_room a.book.now a.half (tree_of a.blocks) (tree-length a.blocks ∙ search rules) a.out.now a.at s.requires l.out l.k l.i l.invariant (search rules) _ c.level_of.ensures _ (sym (tree_at a.blocks l.i))

pub loop-i-preserved : goal.loop-i-preserved
loop-i-preserved c =
    let s = c in
    let a = s.args in
    let l = c.loop-i in
    emit_turn a.book.now a.half (tree_of a.blocks) (tree-length a.blocks ∙ search rules) a.out.now a.at s.requires l.out l.k l.i l.invariant (search rules) _ c.level_of.ensures _ (sym (tree_at a.blocks l.i))
    _ _ c.put_node-k.auto.out c.put_node-k.ensures

pub returns : goal.returns
returns c =
    let s = c in
    let a = s.args in
    let l = c.loop-i in
    emit_ends a.book.now a.half (tree_of a.blocks) (tree-length a.blocks ∙ search rules) a.out.now a.at s.requires l.out l.k l.i l.invariant c.loop-i-test.false
