-- `write_tables` meets its contract: what refuses the tables, then the room, then the file's writer and behind it the numbers.
use Rattle.std.proofs.Common.{◌-◌, refl, sym, rules, arith, length}
use Rattle.bits.specs.declared.refusal.Refusal.TheVariants as refusal
use Rattle.book.specs.BookLaws.{data_passes}
use Rattle.house_text.specs.HouseTextLaws.{print_refused, print_short, file_short, file_then_numbers}
use Rattle.house_text.proofs.write_tables.Goals as goal

pub returns-in_err-check_data : goal.returns-in_err-check_data
returns-in_err-check_data c =
    let a = c.args in
    search (rules, print_refused a.book.now a.codebook.now a.out.now, c.in_err-check_data.ensures)

pub numbers_length-numbers-requires : goal.numbers_length-numbers-requires
numbers_length-numbers-requires c = (data_passes _ _ (sym c.in_ok-check_data.ensures)).0

pub returns-then-out-numbers : goal.returns-then-out-numbers
returns-then-out-numbers c =
    let a = c.args in
    print_short a.book.now a.codebook.now a.out.now (sym c.in_ok-check_data.ensures) refusal.ResultLength refl (omega (arith, c.numbers_length-numbers.ensures, c.if-out-numbers.true))

pub returns-in_err-end : goal.returns-in_err-end
returns-in_err-end c =
    let a = c.args in
    search (rules, file_short a.book.now a.codebook.now a.out.now (sym c.in_ok-check_data.ensures) (length a.out.now - c.numbers_length-numbers.result) (omega (arith, c.numbers_length-numbers.ensures, c.if-out-numbers.false)), c.in_err-end.ensures)

pub returns : goal.returns
returns c =
    let a = c.args in
    file_then_numbers a.book.now a.codebook.now a.out.now (sym c.in_ok-check_data.ensures) (length a.out.now - c.numbers_length-numbers.result) (omega (arith, c.numbers_length-numbers.ensures, c.if-out-numbers.false))
    _ c.write_book_file.new.out c.in_ok-end.ensures c.in_ok-end.end refl c.put_numbers.result c.put_numbers.new.out c.put_numbers.ensures
