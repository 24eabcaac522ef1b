use mathlib.Core.Path.{◌≡◌}
use lib.ListN.{length}
use Rattle.text.specs.WritingForms.{PutInRoom}
use Rattle.book_file.specs.BookFile.{table_lines}
use Rattle.book_file_writer.proofs.put_table.Given as goal

abbrev pub invariant-loop-p : goal.invariant-loop-p
invariant-loop-p l =
    (length l.out ≡ length l.initial.out) × PutInRoom l.initial.out l.at (table_lines l.book (record { name = l.name; from = l.from; size = l.size }) l.p) l.next l.out
