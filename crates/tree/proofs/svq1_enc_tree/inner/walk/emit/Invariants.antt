use Rattle.tree.specs.WalkNeedsLaws.{Emitting}
use Rattle.book.specs.Book.{tables_of}
use Rattle.tree.specs.NodeForms.{tree_of}
use Rattle.tree.proofs.svq1_enc_tree.inner.walk.emit.Given as goal

abbrev pub invariant-loop-i : goal.invariant-loop-i
invariant-loop-i l = Emitting (tables_of l.book l.half) (tree_of l.blocks) l.initial.out l.at l.out l.k l.i
