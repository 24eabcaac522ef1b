use Rattle.tree.specs.WalkReadLaws.{Reading}
use Rattle.tree.specs.TreeBits.{read_tree}
use Rattle.book.specs.Book.{tables_of}
use Rattle.bits.specs.Bits.{bits_of}
use lib.ListN.{drop}
use Rattle.book.specs.Level.{level_number}
use Rattle.tree.proofs.svq1_enc_tree.inner.walk.read.Given as goal

abbrev pub invariant-loop-i : goal.invariant-loop-i
invariant-loop-i l = Reading (tables_of l.book l.half) l.root l.s (read_tree (tables_of l.book l.half) (level_number l.fn.level) (drop l.at (bits_of l.s))) l.blocks l.next l.i
