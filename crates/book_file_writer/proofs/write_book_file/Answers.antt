-- `write_book_file` meets its contract: what refuses the book, then the room, then the whole file is put.
use Rattle.std.proofs.Common.{◌≤◌, ◌≡◌, sym, rules, arith, length, le-leb}
use Rattle.std.proofs.lemmas.Bool.{lt-leb}
use Rattle.bits.specs.BasicsLaws.{first_passed, first_last}
use Rattle.bits.specs.CallsLaws.{link_met}
use Rattle.bits.specs.declared.refusal.Refusal.TheVariants as refusal
use Rattle.text.specs.WritingForms.{text_refusal}
use Rattle.text.specs.PutLaws.{text_refused, text_written}
use Rattle.book.specs.BookLaws.{good_book}
use Rattle.book_file.specs.BookFile.{book_file, write_file_refusal}
use Rattle.book_file_writer.proofs.write_book_file.Goals as goal

pub returns-in_err-check_book : goal.returns-in_err-check_book
unfolding write_file_refusal
returns-in_err-check_book c = search (rules, text_refused, link_met, c.in_err-check_book.ensures)

pub file_length-requires : goal.file_length-requires
file_length-requires c = (good_book c.args.book.now (sym c.in_ok-check_book.ensures)).size

pub returns-then-out-file_length : goal.returns-then-out-file_length
unfolding write_file_refusal
returns-then-out-file_length c =
    let file = book_file c.args.book.now in
    let out = c.args.out.now in
    let room : 20 ≡ text_refusal file (length out) = rw (lt-leb (length file) (length out) (omega (arith, c.file_length.ensures))) in
    text_refused _ refusal.ResultLength file out (first_passed 20 _ _ (sym c.in_ok-check_book.ensures) (first_last 20 _ room))

pub put_tables-requires : goal.put_tables-requires
put_tables-requires c = (good_book c.args.book.now (sym c.in_ok-check_book.ensures)).size

pub returns : goal.returns
unfolding write_file_refusal
returns c =
    let file = book_file c.args.book.now in
    let out = c.args.out.now in
    let room : length file ≤ length out = omega (arith, c.file_length.ensures, c.if-out-file_length.false) in
    text_written _ (sym (first_passed 0 _ _ (sym c.in_ok-check_book.ensures) (first_last 0 _ (rw (le-leb (length file) (length out) room))))) room c.put_tables.ensures
