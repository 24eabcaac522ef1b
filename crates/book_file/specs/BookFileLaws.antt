-- Laws of book files: a book has one file, it is read as that book and refused as it is, and nothing else is accepted. Assumes nothing.
use Prim.Native.Nat.{ℕ, zero, suc, ◌+◌, ◌*◌, ◌/◌, ◌%◌, ◌^◌, ◌≤◌}
use Rattle.std.specs.Prelude.{◌≡◌, refl, true, false, ◌&&◌, List, [], ◌∷◌, leb, ltb, length, take, Option, None, Some, Result}
use Rattle.std.proofs.Math.Path.{sym, ap}
use Rattle.std.proofs.Common.{◌∙◌, arith, take_at, leb-true}
use Rattle.bits.specs.Basics.{All, Bytes, unless, values_from}
use Rattle.bits.specs.BasicsLaws.{first-none, unless-none, both_true, length_values}
use Rattle.code_tables.specs.Codes.{good_entry, good_table}
use Rattle.text.specs.WritingForms.{put_text, bytes_written, TextWritten}
use Rattle.bits.specs.declared.refusal.Refusal.{Refusal}
use Rattle.text.specs.PutLaws.{written_told}
use Rattle.book.specs.Book.{book_entries, book_bytes, codes_refusal, book_refusal}
use Rattle.book.specs.BookLaws.{good_book}
use Rattle.book_file.specs.BookFile.{Line, book_file, write_file_refusal, file_lines, once_each, in_order, book_of, lines_refusal, refusal_read, file_refusal, file_book}
use Rattle.book_file.specs.FileText.{line_for, book_lines, file_of}
use Rattle.book_file.specs.FileLength.{file_length, longest_book_file}
use Rattle.book_file.specs.FileLengthLaws.{file_length_lem, file_most}
use Rattle.book_file.specs.BookFileFormsLaws.{LineFits, file_fits}
use Rattle.book_file.specs.FileTextLaws.{file_back, file_lines_lem}
use Rattle.book_file.specs.OneFileLaws.{file_text}
use Rattle.book_file.specs.OrderLaws.{order_once, book_length_lem, order_lines, values_order, values_book, codes_good}
use Rattle.book_file.specs.CallLaws.{lines_moved, lines_codes, book_codes, whole_length}

-- ---- a book's file is read
module _ (book : List ℕ) (bytes : Bytes book) where
  values_fit : (n e : ℕ) → e + n ≤ book_entries → All LineFits (values_from (line_for book) n e)
  unfolding values_from
  values_fit zero e h = tt
  values_fit (suc n) e h = (
    record {
      entry_below = omega arith;
      long_le = omega (arith, bytes (3 * e + 2));
      value_le = omega (arith, bytes (3 * e), bytes (3 * e + 1));
    },
    values_fit n (suc e) (omega arith),
  )

  filed_lines : file_lines (book_file book) ≡ Some (book_lines book)
  filed_lines = ap file_lines (file_lines_lem book) ∙ file_back (book_lines book) (values_fit book_entries 0 (omega arith))

  module _ (size : length book ≡ book_bytes) where
    filed_is : book_of (book_lines book) ≡ book
    filed_is = values_book book book_entries 0 bytes (omega (arith, size))

    -- it is refused as the book is
    filed_refused : file_refusal (book_file book) ≡ book_refusal book
    unfolding file_refusal
    filed_refused =
        let order = values_order book book_entries 0 in
        rw filed_lines (lines_codes (book_lines book) (order_once (book_lines book) order (length_values (line_for book) book_entries 0)) order ∙ ap codes_refusal filed_is ∙ sym (book_codes book size))

    -- and holds it
    filed_read : file_book (book_file book) ≡ book
    unfolding file_book
    filed_read = rw filed_lines filed_is

-- what holds of the file of a book of bytes: it is refused as the book is and holds it; its length, and the most that it can be
pub record FiledBook (book : List ℕ) : Type 0 where
  pub refused : file_refusal (book_file book) ≡ book_refusal book
  pub holds : file_book (book_file book) ≡ book
  pub long : length (book_file book) ≡ file_length book
  pub most : book_refusal book ≡ 0 → length (book_file book) ≤ longest_book_file

pub filed : (book : List ℕ) → Bytes book → length book ≡ book_bytes → FiledBook book
filed book bytes size = record { refused = filed_refused book bytes size; holds = filed_read book bytes size; long = file_length_lem book; most = file_most book bytes }

-- what a call has written is read as the book
pub written_read : (book out : List ℕ) (r : Result ℕ Refusal) (left : List ℕ) → Bytes book → write_file_refusal book (length out) ≡ 0
    → TextWritten (write_file_refusal book (length out)) (book_file book) out r left → (file_refusal (take (bytes_written r) left) ≡ 0) × (file_book (take (bytes_written r) left) ≡ book)
unfolding write_file_refusal put_text
written_read book out r left bytes z w =
    let passes : book_refusal book ≡ 0 = (first-none _ z).0 in
    let f = filed book bytes (good_book book passes).size in
    let long : bytes_written r ≡ length (book_file book) = (written_told _ _ _ _ _ w).1 ∙ rw z in
    let text : take (bytes_written r) left ≡ book_file book = rw (long, w.left, z) (take_at (book_file book) _ (length (book_file book)) refl) in
    rw text (f.refused ∙ passes, f.holds)

-- a book's lines, each once, in another order
pub filed_otherwise : (ls : List Line) → All LineFits ls → once_each book_entries 0 ls ≡ true → in_order 0 ls ≡ false → file_refusal (file_of ls) ≡ 30
unfolding file_refusal
filed_otherwise ls fit once moved = rw (file_back ls fit) (lines_moved ls once moved)

-- ---- what is accepted
-- the book that an accepted file holds, as bytes that pass, and the file as its text
pub record FileAccepted (file : List ℕ) : Type 0 where
  pub bytes : Bytes (file_book file)
  pub passes : book_refusal (file_book file) ≡ 0
  pub text : file ≡ book_file (file_book file)

book_bytes_lem : (ls : List Line) → All LineFits ls → good_table (book_of ls) ≡ true → Bytes (book_of ls)
unfolding book_of good_table
book_bytes_lem [] fit g k = omega arith
book_bytes_lem (l ∷ ls) fit g zero = omega (arith, fit.0.value_le)
book_bytes_lem (l ∷ ls) fit g (suc zero) = omega arith
book_bytes_lem (l ∷ ls) fit g (suc (suc zero)) =
    let v : ℕ = l.value / 256 * 256 + l.value % 256 in
    let good : good_entry v l.long ≡ true = (both_true (good_entry v l.long) (good_table (book_of ls)) g).0 in
    omega (arith, leb-true l.long 32 (both_true (leb 1 l.long) (leb l.long 32) (both_true (leb 1 l.long && leb l.long 32) (ltb v (2 ^ l.long)) good).0).1)
book_bytes_lem (l ∷ ls) fit g (suc (suc (suc k))) = book_bytes_lem ls fit.1 (both_true (good_entry (l.value / 256 * 256 + l.value % 256) l.long) (good_table (book_of ls)) g).1 k

module _ (ls : List Line) (fit : All LineFits ls) (passes : lines_refusal ls ≡ 0) where
  links : All (λ n. n ≡ 0) (unless (once_each book_entries 0 ls) 5 ∷ unless (in_order 0 ls) 30 ∷ codes_refusal (book_of ls) ∷ [])
  unfolding lines_refusal
  links = first-none _ passes

  order : in_order 0 ls ≡ true
  order = unless-none (in_order 0 ls) 30 (omega arith) links.1.0

  many : length ls ≡ book_entries
  many = whole_length ls fit (unless-none (once_each book_entries 0 ls) 5 (omega arith) links.0) order

  lines_bytes : Bytes (book_of ls)
  lines_bytes = book_bytes_lem ls fit (codes_good (book_of ls) links.1.1.0)

  lines_pass : book_refusal (book_of ls) ≡ 0
  lines_pass = book_codes (book_of ls) (omega (arith, book_length_lem ls, many)) ∙ links.1.1.0

  lines_text : file_of ls ≡ book_file (book_of ls)
  lines_text = let own : ls ≡ book_lines (book_of ls) = rw many at (order_lines ls order) in ap file_of own ∙ sym (file_lines_lem (book_of ls))

pub accepted : (file : List ℕ) → file_refusal file ≡ 0 → FileAccepted file
unfolding file_refusal file_book
accepted file passes = go (file_lines file) refl (sym passes)
  where
    go : (o : Option (List Line)) → file_lines file ≡ o → 0 ≡ refusal_read (file_lines file) → FileAccepted file
    go None q z = absurd (omega (arith, rw q at z))
    go (Some ls) q z =
        let fit = file_fits file ls q in
        let fine : lines_refusal ls ≡ 0 = sym (rw q at z) in
        record {
          bytes = rw q (lines_bytes ls fit fine);
          passes = rw q (lines_pass ls fit fine);
          text = rw q (file_text file ls q ∙ lines_text ls fit fine);
        }

-- a book has one file
pub one_file : (file other : List ℕ) → file_refusal file ≡ 0 → file_refusal other ≡ 0 → file_book file ≡ file_book other → file ≡ other
one_file file other p q same = (accepted file p).text ∙ ap book_file same ∙ sym (accepted other q).text
