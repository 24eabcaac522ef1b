-- The size first, then the book, then the bytes by its longest codes.
use Rattle.std.proofs.Common.{rules, sym}
use Rattle.plane_room.specs.BitsLaws.{book_any}
use Rattle.plane_room.specs.CallsLaws.{sides_most, under_refused_size, under_refused_book, under_bytes}
use Rattle.plane_room.proofs.plane_room_under.Goals as goal

pub returns-in_err-check_size : goal.returns-in_err-check_size
returns-in_err-check_size c = search (rules, under_refused_size, c.in_err-check_size.ensures)

pub returns-in_err-check_book : goal.returns-in_err-check_book
returns-in_err-check_book c =
    let e = under_refused_book c.args.width c.args.height c.args.book.now _ (sym c.in_ok-check_size.ensures) c.in_err-check_book.ensures in
    search (rules, e)

pub room_bytes-requires : goal.room_bytes-requires
room_bytes-requires c =
    let m = sides_most c.args.width c.args.height (sym c.in_ok-check_size.ensures) in
    (m.0, m.1, rw c.book_bits.ensures (book_any c.args.book.now (sym c.in_ok-check_book.ensures)))

pub returns : goal.returns
returns c =
    under_bytes c.args.width c.args.height c.args.book.now c.room_bytes.result (sym c.in_ok-check_size.ensures) (sym c.in_ok-check_book.ensures)
    (rw c.book_bits.ensures at c.room_bytes.ensures)
