-- A book and a codebook as text, and the house's (document 02, §3): the book's file, then the codebook's numbers, one a line.
use Rattle.std.specs.Prelude.{ℕ, List, [], ◌∷◌, ◌++◌}
use Rattle.bits.specs.Basics.{first_of, signed_of}
use Rattle.text.specs.Text.{line_feed, signed_decimal}
use Rattle.text.specs.WritingForms.{text_refusal}
use Rattle.book.specs.Book.{data_refusal}
use Rattle.book_file.specs.BookFile.{book_file}
use Rattle.house.specs.House.{house_book, house_codebook}

-- the line of a codebook's byte: the number that it stands for, in decimal, negative ones with a minus
unfoldable pub number_line : ℕ → List ℕ
number_line b = signed_decimal (signed_of b) ++ (line_feed ∷ [])

-- the lines of a codebook's bytes, in their order
unfoldable pub number_lines : List ℕ → List ℕ
number_lines [] = []
number_lines (b ∷ bs) = number_line b ++ number_lines bs

-- a book's file, then the codebook's lines
unfoldable pub tables_printed : List ℕ → List ℕ → List ℕ
tables_printed book codebook = book_file book ++ number_lines codebook

-- 5, 6 or 7 of a book and a codebook, then 20: the slice lent for their text is shorter than the text
unfoldable pub print_refusal : List ℕ → List ℕ → ℕ → ℕ
print_refusal book codebook room = first_of (data_refusal book codebook ∷ text_refusal (tables_printed book codebook) room ∷ [])

-- the text of the house
unfoldable pub house_printed : List ℕ
house_printed = tables_printed house_book house_codebook

-- its bytes
abbrev pub house_printed_bytes : ℕ
house_printed_bytes = 91631
