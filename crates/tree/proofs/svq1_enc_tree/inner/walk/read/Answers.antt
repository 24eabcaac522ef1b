-- The blocks by number; the first refusal ends the reading. Assumes nothing.
use Rattle.tree.specs.WalkReadLaws.{read_begins, read_ends, read_refused, passed, taken, refused, moved}
use Rattle.tree.specs.NodeForms.{tree_of}
use Rattle.book.specs.Book.{tables_of}
use mathlib.Core.Path.{◌∙◌, sym, ap}
use native.Mathlib.Omega.{arith}
use borrow.Author.Rules.{rules}
use Rattle.book.specs.Level.{level_number}
use Rattle.book.specs.LevelLaws.{level_most}
use Rattle.tree.proofs.svq1_enc_tree.inner.walk.read.Goals as goal
use Rattle.tree.proofs.svq1_enc_tree.inner.walk.read.Goals.{then-is_reached+in_ok-node, else-is_reached}

pub loop-i-init : goal.loop-i-init
unfolding tree_of
loop-i-init c =
    let a = c.args in
    read_begins (tables_of a.book.now a.half) (level_number a.level) a.s.now a.at c.first_of-root.result c.first_of-root.ensures _ (ap tree_of c.no_blocks-blocks.ensures) (omega (arith, c.requires.from.bits_fit))

pub read_node-requires : goal.read_node-requires
read_node-requires c =
    let p = c.requires in
    record { passes = p.passes; deep = level_most c.level_of.result; from = record { bytes_fit = p.from.bytes_fit; bits_fit = omega (arith, c.loop-i.invariant.within) } }

pub returns-in_err-node : goal.returns-in_err-node
returns-in_err-node c =
    let a = c.args in
    let l = c.loop-i in
    let f = c.first_of-root in
    let e = read_refused (tables_of a.book.now a.half) (level_number a.level) a.s.now a.at f.result f.ensures _
    (refused (tables_of a.book.now a.half) f.result a.s.now _ l.blocks l.next l.i l.invariant (search rules) _ c.level_of.ensures
    (sym c.is_reached.ensures ∙ c.if-is_reached.true) _ c.in_err-node.ensures) in
    search (rules, e)

pub loop-i-preserved : goal.loop-i-preserved
loop-i-preserved c =
    let a = c.args in
    let l = c.loop-i in
    let f = c.first_of-root in
    let h = c.loop-i-test.true in
    let r = sym c.is_reached.ensures in
    elim c.if-is_reached.branch [
      | then-is_reached+in_ok-node w ↦ moved _ _ _ _ _ _ _ _ _ w.blocks-is w.next-is
          (taken (tables_of a.book.now a.half) f.result a.s.now _ l.blocks l.next l.i l.invariant h _ w.level_of.ensures (r ∙ w.if-is_reached.true) _ w.in_ok-node.ensures)
      | else-is_reached w ↦ moved _ _ _ _ _ _ _ _ _ w.blocks-is w.next-is (passed (tables_of a.book.now a.half) f.result a.s.now _ l.blocks l.next l.i l.invariant h (r ∙ w.if-is_reached.false))
    ]

pub returns : goal.returns
returns c =
    let a = c.args in
    let l = c.loop-i in
    let f = c.first_of-root in
    read_ends (tables_of a.book.now a.half) (level_number a.level) a.s.now a.at f.result f.ensures l.blocks l.next l.i l.invariant c.loop-i-test.false
