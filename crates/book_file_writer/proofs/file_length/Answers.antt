-- `book_file_writer::file_length` meets its contract: what every file holds, and the digits of the entries passed. Assumes nothing.
use mathlib.Core.Path.{◌≡◌, refl, ap}
use native.Mathlib.Omega.{arith}
use Rattle.bits.specs.Basics.{sum}
use Rattle.bits.specs.SumLaws.{sum_more}
use Rattle.book.specs.Book.{book_entries}
use Rattle.book_file.specs.FileLength.{digits_at, file_length}
use Rattle.book_file.specs.FileLengthLaws.{file_length_lem}
use Rattle.book_file_writer.proofs.file_length.Goals as goal

pub loop-e-init : goal.loop-e-init
unfolding sum
loop-e-init c = (omega arith, refl)

pub loop-e-preserved : goal.loop-e-preserved
loop-e-preserved c =
    let book = c.args.book.now in
    let of-long = rw c.entry_len.ensures at c.digit_count-n.ensures.count in
    let of-value = rw c.entry_val.ensures at c.digit_count-n-in-loop-e.ensures.count in
    let more = sum_more (digits_at book) c.loop-e.e (sum (digits_at book) c.loop-e.e) (digits_at book c.loop-e.e) refl refl in
    (omega arith, omega (arith, c.loop-e.invariant.1, of-long, of-value, more))

pub returns : goal.returns
unfolding file_length
returns c =
    let book = c.args.book.now in
    let e : c.loop-e.e ≡ book_entries = omega arith in
    omega (arith, c.loop-e.invariant.1, ap (sum (digits_at book)) e, file_length_lem book)
