-- A block by its case. Assumes nothing.
use native.Mathlib.Omega.{arith}
use lib.ListN.{length}
use mathlib.Core.Path.{◌∙◌, sym, ap, refl}
use Rattle.tree.specs.declared.svq1_enc_tree.TreeNode.{TreeNode}
use Rattle.tree.specs.NodeForms.{node_of, node_as}
use Rattle.leaf.specs.LeafForms.{leaf_of}
use Rattle.book.specs.Book.{tables_of}
use Rattle.bits.specs.BitNeedsLaws.{wrote_none, wrote_more}
use Rattle.tree.specs.WalkNeedsLaws.{wrote_as, off_bits, split_bits, leaf_bits_lem, split_one, split_room, flag_room, leaf_room}
use Rattle.book.specs.Level.{level_number}
use Rattle.tree.proofs.svq1_enc_tree.inner.walk.put_node.Goals as goal

pub put_bits-requires : goal.put_bits-requires
put_bits-requires c =
    let s = c in
    let a = s.args in
    (omega arith, split_room a.book.now a.half (level_number a.level) (node_of a.b) (length a.out.now) a.at s.requires (ap (λ (n : TreeNode). node_as n a.b.stages) c.in-Split.is))

pub put_flag-k-requires : goal.put_flag-k-requires
put_flag-k-requires c =
    let s = c in
    let a = s.args in
    flag_room a.book.now a.half (level_number a.level) (node_of a.b) (length a.out.now) a.at s.requires (leaf_of c.in-Leaf.code a.b.stages)
    (ap (λ (n : TreeNode). node_as n a.b.stages) c.in-Leaf.is)

pub put_leaf_at-requires : goal.put_leaf_at-requires
put_leaf_at-requires c =
    let s = c in
    let a = s.args in
    leaf_room a.book.now a.half (level_number a.level) (node_of a.b) (length a.out.now) a.at s.requires (leaf_of c.in-Leaf.code a.b.stages)
    (ap (λ (n : TreeNode). node_as n a.b.stages) c.in-Leaf.is) refl c.put_flag-k.ensures _ c.put_flag-k.auto.out

pub returns-in-Off : goal.returns-in-Off
returns-in-Off c =
    let a = c.args in
    wrote_as _ _ (off_bits (tables_of a.book.now a.half) (level_number a.level) (node_of a.b) (ap (λ (n : TreeNode). node_as n a.b.stages) c.in-Off.is)) (wrote_none _ _)

pub returns-in-Split : goal.returns-in-Split
returns-in-Split c =
    let a = c.args in
    wrote_as _ _ (split_bits (tables_of a.book.now a.half) (level_number a.level) (node_of a.b) (ap (λ (n : TreeNode). node_as n a.b.stages) c.in-Split.is) ∙ sym split_one)
    c.put_bits.ensures

pub returns-in-Leaf : goal.returns-in-Leaf
returns-in-Leaf c =
    let s = c in
    let a = s.args in
    let room = s.requires.room.bits_fit in
    wrote_as _ _ (leaf_bits_lem (tables_of a.book.now a.half) (level_number a.level) (node_of a.b) (leaf_of c.in-Leaf.code a.b.stages) (ap (λ (n : TreeNode). node_as n a.b.stages) c.in-Leaf.is))
    (wrote_more (omega arith) c.put_flag-k.ensures c.put_leaf_at.ensures)
