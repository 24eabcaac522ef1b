-- Forms of the definitions of BookFile that reading line after line follows (document 01, "The book", refusals 5, 6, 7; document 02, §2, refusal 30).
use Rattle.std.specs.Prelude.{ℕ, suc, ◌*◌, ◌/◌, ◌%◌, min, ◌≡◌, Bool, true, ◌&&◌, List, [], ◌∷◌, eqb, length, get_or, set, Option, None, Some}
use Rattle.bits.specs.Basics.{pick, every, or_else, unless}
use Rattle.text.specs.WritingForms.{put_text}
use Rattle.book.specs.Book.{book_entries, book_bytes}
use Rattle.book_file.specs.BookFile.{Line, line_number, line_at, entry_field, file_refusal, file_book}
use Rattle.book_file.specs.declared.FileEntry.{FileEntry}

-- ---- one line
-- what the answer of reading a line says
abbrev pub line_told : Option FileEntry → Option Line
line_told (Some f) = Some (record { entry = f.entry; long = f.long; value = f.value })
line_told None = None

-- an entry and the fields behind it: a length and a code, and no more
unfoldable pub file_code_at : Option ℕ → List (List ℕ) → Option Line
file_code_at e [] = None
file_code_at e (n ∷ []) = None
file_code_at e (n ∷ (v ∷ [])) = line_at e (line_number n) (line_number v)
file_code_at e (n ∷ (v ∷ (x ∷ xs))) = None

-- a table's name and the fields behind it
unfoldable pub place_at : List ℕ → List (List ℕ) → Option Line
place_at t [] = None
place_at t (p ∷ fs) = file_code_at (entry_field t (line_number p)) fs

-- ---- the lines one after the other
-- what the lines read so far leave: a book's bytes, for each entry whether a line has spoken of it, and whether the lines followed a book's order
pub record BookHeld : Type 0 where
  pub book : List ℕ
  pub met : List ℕ
  pub ordered : Bool

-- before the first line: a book's bytes as they are, and the marks
abbrev pub begun : List ℕ → List ℕ → BookHeld
begun book met = record { book = book; met = met; ordered = true }

-- the three bytes of a line, 255 standing for a length that no byte holds
abbrev pub entry_held : ℕ → ℕ → List ℕ
entry_held n v = v / 256 ∷ v % 256 ∷ min n 255 ∷ []

-- an entry's bytes put into a book
abbrev pub with_entry : List ℕ → ℕ → ℕ → ℕ → List ℕ
with_entry book e n v = put_text book (3 * e) (entry_held n v)

-- what is left by a line that has k others before it
unfoldable pub kept : ℕ → Line → BookHeld → BookHeld
kept k l s =
    record {
      book = with_entry s.book l.entry l.long l.value;
      met = set s.met l.entry 1;
      ordered = s.ordered && eqb l.entry k;
    }

-- what is left by lines that have k others before them; none at the first that speaks of an entry a second time
unfoldable pub scan_lines : ℕ → List Line → BookHeld → Option BookHeld
scan_lines k [] s = Some s
scan_lines k (l ∷ ls) s = pick (eqb (get_or s.met l.entry 0) 0) (scan_lines (suc k) ls (kept k l s)) None

abbrev pub scanned : ℕ → Option (List Line) → BookHeld → Option BookHeld
scanned k None s = None
scanned k (Some ls) s = scan_lines k ls s

-- what the answer of reading all lines says, with the bytes and marks at exit
abbrev pub held_told : Option Bool → List ℕ → List ℕ → Option BookHeld
held_told (Some ordered) book met = Some (record { book = book; met = met; ordered = ordered })
held_told None book met = None

-- a mark for each entry, none of them set
pub record Unmet (met : List ℕ) : Type 0 where
  pub size : length met ≡ book_entries
  pub zeros : (k : ℕ) → get_or met k 0 ≡ 0

-- every entry has its line
abbrev pub all_met : List ℕ → Bool
all_met met = every (λ m. eqb m 1) met

-- ---- the call
-- 5 too where the lent book has another size
unfoldable pub read_file_refusal : List ℕ → ℕ → ℕ
read_file_refusal file book_length = or_else (unless (eqb book_length book_bytes) 5) (file_refusal file)

-- a lent book at exit: the file's book, or as it came where the call is refused
unfoldable pub read_file_book : List ℕ → List ℕ → List ℕ
read_file_book file book = pick (eqb (read_file_refusal file (length book)) 0) (file_book file) book

-- what reading a file into local bytes promises: the refusal, and the book where there is none
pub record FileHeld (file : List ℕ) (r : ℕ) (book : List ℕ) : Type 0 where
  pub refusal : r ≡ file_refusal file
  pub held : r ≡ 0 → book ≡ file_book file

-- what the call promises: its answer, and every byte of the lent book
pub record BookFileRead (file book : List ℕ) (r : ℕ) (after : List ℕ) : Type 0 where
  pub refusal : r ≡ read_file_refusal file (length book)
  pub book_after : after ≡ read_file_book file book
