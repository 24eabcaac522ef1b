-- `check_book` meets its contract. 5, 6 and 7, one behind the other.
use Rattle.std.proofs.Common.{◌≡◌, ◌∙◌, sym, length, eq-eqb, ne_eqb}
use Rattle.bits.specs.Basics.{or_else, unless}
use Rattle.book.specs.Book.{book_bytes, code_table_sizes, each_prefix_free, codes_refusal, book_refusal}
use Rattle.book_check.proofs.check_book.Goals as goal
use Rattle.book_check.proofs.check_book.Goals.{After-good_table}

-- what is left of the definition once the size is right
left : (c : After-good_table) →
    let b = c.args.book.now in
    book_refusal b ≡ or_else (unless c.good_table.result 6) (unless (each_prefix_free code_table_sizes b) 7)
unfolding book_refusal codes_refusal
left c = rw (eq-eqb (length c.args.book.now) book_bytes c.if-book-ne-BOOK_BYTES.false, ← c.good_table.ensures)

pub returns-then-book-ne-BOOK_BYTES : goal.returns-then-book-ne-BOOK_BYTES
unfolding book_refusal
returns-then-book-ne-BOOK_BYTES c = sym (rw (ne_eqb (length c.args.book.now) book_bytes c.if-book-ne-BOOK_BYTES.true))

pub returns-then-not-good_table : goal.returns-then-not-good_table
returns-then-not-good_table c = sym (left (goal.at.returns-then-not-good_table c).After-good_table ∙ rw c.if-not-good_table.true)

pub each_prefix_free-requires : goal.each_prefix_free-requires
each_prefix_free-requires c =
    (c.if-book-ne-BOOK_BYTES.false, sym c.good_table.ensures ∙ c.if-not-good_table.false)

pub returns-then-not-each_prefix_free : goal.returns-then-not-each_prefix_free
returns-then-not-each_prefix_free c = sym (left (goal.at.returns-then-not-each_prefix_free c).After-good_table ∙ rw (c.if-not-good_table.false, ← c.each_prefix_free.ensures, c.if-not-each_prefix_free.true))

pub returns : goal.returns
returns c = sym (left (goal.at.returns c).After-good_table ∙ rw (c.if-not-good_table.false, ← c.each_prefix_free.ensures, c.if-not-each_prefix_free.false))
