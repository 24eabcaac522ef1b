-- `read_book_file` meets its contract: the size decides first, then what was read into local bytes.
use Rattle.std.proofs.Common.{refl, ◌∙◌, rules}
use Rattle.book_file.specs.CallLaws.{unmet_at_first, call_size, call_refused_by, call_read}
use Rattle.book_file.proofs.read_book_file.Goals as goal

pub returns-then-book-ne-BOOK_BYTES : goal.returns-then-book-ne-BOOK_BYTES
returns-then-book-ne-BOOK_BYTES c = let a = c.args in call_size a.file.now a.book.now c.if-book-ne-BOOK_BYTES.true

pub slice_bounds-read_into-end : goal.slice_bounds-read_into-end
slice_bounds-read_into-end c = refl

pub slice_bounds-read_into-end-2 : goal.slice_bounds-read_into-end-2
slice_bounds-read_into-end-2 c = refl

pub read_into-requires : goal.read_into-requires
read_into-requires c = (refl, unmet_at_first _ refl)

pub returns-in_err-read_into : goal.returns-in_err-read_into
returns-in_err-read_into c =
    let a = c.args in
    search (rules, call_refused_by a.file.now a.book.now c.if-book-ne-BOOK_BYTES.false, c.in_err-read_into.ensures.refusal)

pub returns : goal.returns
returns c =
    let a = c.args in
    let h = c.in_ok-read_into.ensures in
    call_read a.file.now a.book.now c.if-book-ne-BOOK_BYTES.false c.copy_from_slice.new.self h.refusal (c.copy_from_slice.ensures.after ∙ h.held refl)
