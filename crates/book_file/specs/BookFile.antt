-- A book file: its text, its lines, what refuses it and the book that it holds (document 01, "The book", refusals 5, 6, 7; document 02, §2, refusals 20, 30).
use Rattle.std.specs.Prelude.{ℕ, zero, suc, ◌+◌, ◌/◌, ◌%◌, Bool, true, ◌&&◌, List, [], ◌∷◌, ◌++◌, eqb, ltb, Option, None, Some}
use Rattle.bits.specs.Basics.{pick, first_of, unless}
use Rattle.code_tables.specs.Codes.{code_len, code_val}
use Rattle.text.specs.Text.{ascii, decimal, number_up_to, line_of, lines_of, fields_of, same}
use Rattle.text.specs.WritingForms.{text_refusal}
use Rattle.book.specs.Book.{book_entries, codes_refusal, book_refusal}

-- a table as a file names it, its first entry in a book and its entries
pub record Table : Type 0 where
  pub name : List ℕ
  pub from : ℕ
  pub size : ℕ

-- the six tables in a book's order, which is the file's
abbrev pub file_tables : List Table
file_tables =
    record { name = ascii "mode"; from = 0; size = 4 }
    ∷ record { name = ascii "vector"; from = 4; size = 64 }
    ∷ record { name = ascii "intramean"; from = 68; size = 256 }
    ∷ record { name = ascii "intermean"; from = 324; size = 512 }
    ∷ record { name = ascii "intrastage"; from = 836; size = 48 }
    ∷ record { name = ascii "interstage"; from = 884; size = 48 }
    ∷ []

-- ---- the file of a book
-- the line at position p of a table: table, position, length, code
unfoldable pub table_line : List ℕ → Table → ℕ → List ℕ
table_line book t p = line_of (t.name ∷ decimal p ∷ decimal (code_len book (t.from + p)) ∷ decimal (code_val book (t.from + p)) ∷ [])

-- the lines of a table's first n positions, rising
unfoldable pub table_lines : List ℕ → Table → ℕ → List ℕ
table_lines book t zero = []
table_lines book t (suc n) = table_lines book t n ++ table_line book t n

-- tables one behind the other
unfoldable pub tables_text : List ℕ → List Table → List ℕ
tables_text book [] = []
tables_text book (t ∷ ts) = table_lines book t t.size ++ tables_text book ts

-- the one file of a book
unfoldable pub book_file : List ℕ → List ℕ
book_file book = tables_text book file_tables

-- 5, 6 or 7 of a book to be filed, then 20: the slice lent for its file is shorter than the file
unfoldable pub write_file_refusal : List ℕ → ℕ → ℕ
write_file_refusal book room = first_of (book_refusal book ∷ text_refusal (book_file book) room ∷ [])

-- ---- the lines of a file
-- what a line says: the code's length and value at an entry of the book
pub record Line : Type 0 where
  pub entry : ℕ
  pub long : ℕ
  pub value : ℕ

-- the entry that a table's name and a position mean; none for another name or a position past the table
unfoldable pub entry_named : List Table → List ℕ → ℕ → Option ℕ
entry_named [] name p = None
entry_named (t ∷ ts) name p = pick (same t.name name) (pick (ltb p t.size) (Some (t.from + p)) None) (entry_named ts name p)

-- a field of a line: a decimal number up to 65,535
abbrev pub line_number : List ℕ → Option ℕ
line_number = number_up_to 65535

abbrev pub line_at : Option ℕ → Option ℕ → Option ℕ → Option Line
line_at None n v = None
line_at (Some e) None v = None
line_at (Some e) (Some n) None = None
line_at (Some e) (Some n) (Some v) = Some (record { entry = e; long = n; value = v })

-- the entry of a name and a position field
abbrev pub entry_field : List ℕ → Option ℕ → Option ℕ
entry_field name None = None
entry_field name (Some p) = entry_named file_tables name p

-- table, position, length, code; none where a line has another form
unfoldable pub line_read : List (List ℕ) → Option Line
line_read [] = None
line_read (t ∷ []) = None
line_read (t ∷ (p ∷ [])) = None
line_read (t ∷ (p ∷ (n ∷ []))) = None
line_read (t ∷ (p ∷ (n ∷ (v ∷ [])))) = line_at (entry_field t (line_number p)) (line_number n) (line_number v)
line_read (t ∷ (p ∷ (n ∷ (v ∷ (x ∷ xs))))) = None

-- all lines, none where one of them is malformed
abbrev pub onto_lines : Option Line → Option (List Line) → Option (List Line)
onto_lines None ls = None
onto_lines (Some l) None = None
onto_lines (Some l) (Some ls) = Some (l ∷ ls)

unfoldable pub lines_read : List (List ℕ) → Option (List Line)
lines_read [] = Some []
lines_read (t ∷ ts) = onto_lines (line_read (fields_of t)) (lines_read ts)

abbrev pub of_lines : Option (List (List ℕ)) → Option (List Line)
of_lines None = None
of_lines (Some ls) = lines_read ls

unfoldable pub file_lines : List ℕ → Option (List Line)
file_lines file = of_lines (lines_of file)

-- how many lines speak of entry e
unfoldable pub mentions : ℕ → List Line → ℕ
mentions e [] = 0
mentions e (l ∷ ls) = pick (eqb l.entry e) 1 0 + mentions e ls

-- each of the n entries from e on has one line
unfoldable pub once_each : ℕ → ℕ → List Line → Bool
once_each zero e ls = true
once_each (suc n) e ls = eqb (mentions e ls) 1 && once_each n (suc e) ls

-- the lines follow a book's order: entry after entry from e on
unfoldable pub in_order : ℕ → List Line → Bool
in_order e [] = true
in_order e (l ∷ ls) = eqb l.entry e && in_order (suc e) ls

-- the book of lines in order, three bytes each: the code's high byte, its low byte, its length. A length that no byte holds is refused by 6
unfoldable pub book_of : List Line → List ℕ
book_of [] = []
book_of (l ∷ ls) = l.value / 256 ∷ l.value % 256 ∷ l.long ∷ book_of ls

-- 5: a line malformed, missing or doubled. 30: all lines are there, in another order. 6 and 7 as for a lent book
unfoldable pub lines_refusal : List Line → ℕ
lines_refusal ls = first_of (unless (once_each book_entries 0 ls) 5 ∷ unless (in_order 0 ls) 30 ∷ codes_refusal (book_of ls) ∷ [])

abbrev pub refusal_read : Option (List Line) → ℕ
refusal_read None = 5
refusal_read (Some ls) = lines_refusal ls

unfoldable pub file_refusal : List ℕ → ℕ
file_refusal file = refusal_read (file_lines file)

abbrev pub book_read : Option (List Line) → List ℕ
book_read None = []
book_read (Some ls) = book_of ls

-- the book that an accepted file holds
unfoldable pub file_book : List ℕ → List ℕ
file_book file = book_read (file_lines file)
