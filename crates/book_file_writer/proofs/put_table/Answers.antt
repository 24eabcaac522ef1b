-- `book_file_writer::put_table` meets its contract: the lines of the positions passed, and one more each turn. Assumes nothing.
use mathlib.Core.Path.{◌≡◌, refl, ◌∙◌}
use native.Mathlib.Numerals.{add-one}
use native.Mathlib.Omega.{arith}
use Rattle.text.specs.PutLaws.{put_nothing, put_behind}
use Rattle.book_file.specs.BookFile.{table_line, table_lines}
use Rattle.book_file_writer.proofs.put_table.Goals as goal

pub loop-p-init : goal.loop-p-init
unfolding table_lines
loop-p-init c = (refl, put_nothing _ _)

pub loop-p-preserved : goal.loop-p-preserved
unfolding table_line table_lines
loop-p-preserved c =
    let u = c in (
      c.put_line-next.auto.out ∙ u.loop-p.invariant.0,
      rw add-one (put_behind u.loop-p.invariant.1 (rw (c.entry_len-long.ensures, c.entry_val-value.ensures) at c.put_line-next.ensures)),
    )

pub returns : goal.returns
returns c =
    let e : c.loop-p.p ≡ c.args.size = omega arith in
    rw e at c.loop-p.invariant.1
