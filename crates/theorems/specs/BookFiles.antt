-- What document 02, §2, asks of book files, sentence by sentence, of the definitions. Assumes nothing.
use Rattle.std.specs.Prelude.{ℕ, ◌≡◌, true, false, List, length, take, Result}
use Rattle.bits.specs.Basics.{All, Bytes}
use Rattle.bits.specs.declared.refusal.Refusal.{Refusal}
use Rattle.text.specs.WritingForms.{TextWritten, bytes_written}
use Rattle.book.specs.Book.{book_entries, book_bytes, book_refusal}
use Rattle.book_file.specs.BookFile.{Line, book_file, write_file_refusal, once_each, in_order, file_refusal, file_book}
use Rattle.book_file.specs.FileText.{file_of}
use Rattle.book_file.specs.FileLength.{longest_book_file}
use Rattle.book_file.specs.BookFileFormsLaws.{LineFits}
use Rattle.book_file.specs.BookFileLaws.{FiledBook, filed, written_read, filed_otherwise, FileAccepted, accepted, one_file}
use Rattle.theorems.specs.LongestFile.{fullest_book, longest_bytes, longest_passes, longest-reached}

pub record BookFiles : Type 0 where
  -- the file of a book of bytes is refused as the book is and holds it; its length is a number of the book, and at most 20,902 where the book passes
  pub of_a_book : (book : List ℕ) → Bytes book → length book ≡ book_bytes → FiledBook book
  -- what `write_book_file` leaves where it refuses nothing is read as the book
  pub written : (book out : List ℕ) (r : Result ℕ Refusal) (left : List ℕ) → Bytes book → write_file_refusal book (length out) ≡ 0
      → TextWritten (write_file_refusal book (length out)) (book_file book) out r left → (file_refusal (take (bytes_written r) left) ≡ 0) × (file_book (take (bytes_written r) left) ≡ book)
  -- a file that is accepted is, byte for byte, that of the book which it gives, and this book passes
  pub accepts : (file : List ℕ) → file_refusal file ≡ 0 → FileAccepted file
  -- so a book has one file
  pub one : (file other : List ℕ) → file_refusal file ≡ 0 → file_refusal other ≡ 0 → file_book file ≡ file_book other → file ≡ other
  -- every entry's line once, in another order, is refused by 30
  pub other_order : (ls : List Line) → All LineFits ls → once_each book_entries 0 ls ≡ true → in_order 0 ls ≡ false → file_refusal (file_of ls) ≡ 30
  -- a book of bytes that passes has a file of 20,902 bytes
  pub longest : Bytes fullest_book × (book_refusal fullest_book ≡ 0) × (length (book_file fullest_book) ≡ longest_book_file)

pub book_files : BookFiles
book_files =
    record {
      of_a_book = filed;
      written = written_read;
      accepts = accepted;
      one = one_file;
      other_order = filed_otherwise;
      longest = (longest_bytes, longest_passes, longest-reached);
    }
