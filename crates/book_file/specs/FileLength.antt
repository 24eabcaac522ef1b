-- How long the file of a book is (document 01, "The book", the book file; document 02, §2, refusal 20).
use Rattle.std.specs.Prelude.{ℕ, ◌+◌, List, length}
use Rattle.bits.specs.Basics.{sum}
use Rattle.code_tables.specs.Codes.{code_len, code_val}
use Rattle.text.specs.Text.{decimal}
use Rattle.book.specs.Book.{book_entries}

-- the digits of entry e: its length's and its code's
abbrev pub digits_at : List ℕ → ℕ → ℕ
digits_at book e = length (decimal (code_len book e)) + length (decimal (code_val book e))

-- names, positions, commas and line feeds, the same in every book's file
abbrev pub frame_bytes : ℕ
frame_bytes = 14378

unfoldable pub file_length : List ℕ → ℕ
file_length book = frame_bytes + sum (digits_at book) book_entries

-- the largest file of a book that passes: every length of two digits, every code of five
abbrev pub longest_book_file : ℕ
longest_book_file = 20902
