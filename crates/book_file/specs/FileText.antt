-- A book's file line after line: what its lines say, and the text of any list of lines (document 01, "The book", the book file; document 02, §2).
use Rattle.std.specs.Prelude.{ℕ, ◌+◌, ◌-◌, List, [], ◌∷◌, ◌++◌, ltb}
use Rattle.bits.specs.Basics.{pick, values_from}
use Rattle.code_tables.specs.Codes.{code_len, code_val}
use Rattle.text.specs.Text.{decimal, line_of}
use Rattle.book.specs.Book.{book_entries}
use Rattle.book_file.specs.BookFile.{Table, Line, file_tables}

-- what a book's file says of entry e
abbrev pub line_for : List ℕ → ℕ → Line
line_for book e = record { entry = e; long = code_len book e; value = code_val book e }

-- the lines of a book's file
abbrev pub book_lines : List ℕ → List Line
book_lines book = values_from (line_for book) book_entries 0

-- the name and the position of entry e: the first table that ends behind it
unfoldable pub place_fields : List Table → ℕ → List (List ℕ)
place_fields [] e = []
place_fields (t ∷ ts) e = pick (ltb e (t.from + t.size)) (t.name ∷ decimal (e - t.from) ∷ []) (place_fields ts e)

-- the four fields of a line
unfoldable pub fields_for : Line → List (List ℕ)
fields_for l = place_fields file_tables l.entry ++ (decimal l.long ∷ decimal l.value ∷ [])

-- the text of lines
unfoldable pub file_of : List Line → List ℕ
file_of [] = []
file_of (l ∷ ls) = line_of (fields_for l) ++ file_of ls
