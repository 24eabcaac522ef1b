-- `book_file_writer::put_tables` meets its contract: the six tables one behind the other are the file. Assumes nothing.
use native.Mathlib.Omega.{arith}
use Rattle.text.specs.PutLaws.{put_nothing, put_behind}
use Rattle.book_file.specs.BookFile.{tables_text, book_file}
use Rattle.book_file_writer.proofs.put_tables.Goals as goal

pub put_table-requires : goal.put_table-requires
put_table-requires c = omega (arith, c)

pub shape_of-out : goal.shape_of-out
shape_of-out c = omega (arith, c)

pub returns : goal.returns
unfolding book_file tables_text
returns c =
    put_behind c.put_table-a.ensures
    (put_behind c.put_table-b.ensures
    (put_behind c.put_table-c.ensures
    (put_behind c.put_table-d.ensures
    (put_behind c.put_table-e.ensures (put_behind c.put_table.ensures (put_nothing _ _))))))
