-- Laws of how long the file of a book is, and at most where the book passes. Assumes nothing.
use Prim.Native.Nat.{ℕ, zero, suc, ◌+◌, ◌*◌, ◌≤◌, ◌<◌}
use Rattle.std.specs.Prelude.{◌≡◌, length}
use Rattle.std.proofs.Math.Path.{refl, ap}
use Rattle.std.proofs.Common.{◌∙◌}
use mathlib.Core.List.{List, [], ◌∷◌}
use native.Mathlib.Omega.{arith}
use Rattle.std.proofs.Math.ListN.{length-append}
use Rattle.bits.specs.Basics.{sum, Bytes}
use Rattle.bits.specs.SumLaws.{sum_each_le, sum_add}
use Rattle.code_tables.specs.Codes.{code_len, code_val}
use Rattle.code_tables.specs.CodesLaws.{good_is}
use Rattle.text.specs.Text.{digits_before, decimal}
use Rattle.text.specs.LengthLaws.{decimal_few, fields_size, line_size}
use Rattle.book.specs.Book.{book_entries, book_refusal}
use Rattle.book.specs.BookLaws.{good_book}
use Rattle.book_file.specs.BookFile.{Table, file_tables, table_line, table_lines, tables_text, book_file}
use Rattle.book_file.specs.FileTextLaws.{Follow, tables_follow}
use Rattle.book_file.specs.FileLength.{digits_at, frame_bytes, file_length, longest_book_file}

-- ---- beside lengths and codes
-- what the line at position p of a table holds beside length and code
abbrev frame_at : Table → ℕ → ℕ
frame_at t p = length t.name + length (decimal p) + 4

unfoldable frames : List Table → ℕ
frames [] = 0
frames (t ∷ ts) = sum (frame_at t) t.size + frames ts

frames_all : frames file_tables ≡ frame_bytes
unfolding frames sum decimal digits_before
frames_all = refl

-- ---- digits
sevens : sum (λ e. 7) book_entries ≡ 7 * book_entries
unfolding sum
sevens = refl

-- ---- the file
module _ (book : List ℕ) where
  line_length : (t : Table) (p : ℕ) → length (table_line book t p) ≡ frame_at t p + digits_at book (t.from + p)
  unfolding table_line fields_size
  line_length t p =
      let long : List ℕ = decimal (code_len book (t.from + p)) in
      let value : List ℕ = decimal (code_val book (t.from + p)) in
      line_size t.name (decimal p ∷ long ∷ value ∷ []) ∙ omega arith

  lines_length : (t : Table) (n : ℕ) → length (table_lines book t n) ≡ sum (frame_at t) n + sum (λ p. digits_at book (t.from + p)) n
  unfolding table_lines sum
  lines_length t zero = refl
  lines_length t (suc n) = length-append (table_lines book t n) (table_line book t n) ∙ omega (arith, lines_length t n, line_length t n)

  -- tables from entry s to the last
  tables_length : (ts : List Table) (s : ℕ) → Follow s ts → sum (digits_at book) s + length (tables_text book ts) ≡ frames ts + sum (digits_at book) book_entries
  unfolding tables_text frames
  tables_length [] s f = rw f (omega arith)
  tables_length (t ∷ ts) s f =
      let next = tables_length ts (t.from + t.size) f.1 in
      let first = lines_length t t.size in
      let two = length-append (table_lines book t t.size) (tables_text book ts) in
      omega (arith, next, first, two, sum_add (digits_at book) t.from t.size, ap (sum (digits_at book)) f.0)

  none_before : sum (digits_at book) 0 ≡ 0
  unfolding sum
  none_before = refl

  -- what all files have in common, and the digits of this one
  pub file_length_lem : length (book_file book) ≡ file_length book
  unfolding book_file file_length
  file_length_lem = omega (arith, tables_length file_tables 0 tables_follow, none_before, frames_all)

  -- in a book that passes a length has at most two digits and a code at most five
  pub file_most : Bytes book → book_refusal book ≡ 0 → length (book_file book) ≤ longest_book_file
  unfolding file_length
  file_most bytes passes = omega (arith, file_length_lem, sum_each_le (digits_at book) (λ e. 7) book_entries each, sevens)
    where
      each : (e : ℕ) → e < book_entries → digits_at book e ≤ 7
      each e h =
          let good = good_book book passes in
          let long : code_len book e ≤ 32 = (good_is book good.good).long e (omega (arith, good.size)) in
          let value : code_val book e < 65536 = omega (arith, bytes (3 * e), bytes (3 * e + 1)) in
          omega (arith, decimal_few 2 (code_len book e) (omega arith) (omega arith), decimal_few 5 (code_val book e) (omega arith) (omega arith))
