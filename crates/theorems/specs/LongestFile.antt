-- A book with the longest file of all that 5, 6 and 7 do not refuse. Assumes nothing.
use Rattle.std.specs.Prelude.{ℕ, zero, suc, ◌+◌, ◌/◌, ◌%◌, ◌≤◌, ◌≡◌, refl, true, List, [], ◌∷◌, length}
use Rattle.std.proofs.Common.{◌∙◌, arith}
use Rattle.bits.specs.Basics.{Bytes, sum}
use Rattle.bits.specs.Bits.{msb}
use Rattle.code_tables.specs.Codes.{codes_of, good_table}
use Rattle.text.specs.Text.{decimal, digits_before}
use Rattle.book.specs.Book.{book_entries, book_bytes, code_table_sizes, codes_refusal, book_refusal}
use Rattle.house.specs.HouseLaws.{each_free, each_free_lem}
use Rattle.house.specs.TrieForms.{free, enter, all_free}
use Rattle.book_file.specs.BookFile.{book_file}
use Rattle.book_file.specs.FileLength.{file_length, longest_book_file}
use Rattle.book_file.specs.FileLengthLaws.{file_length_lem}

-- n entries from e on: the code of entry e is the number 10,000 + e in sixteen bits
unfoldable pub fullest_from : ℕ → ℕ → List ℕ
fullest_from zero e = []
fullest_from (suc n) e = (10000 + e) / 256 ∷ (10000 + e) % 256 ∷ 16 ∷ fullest_from n (suc e)

unfoldable pub fullest_book : List ℕ
fullest_book = fullest_from book_entries 0

codes_free : each_free code_table_sizes fullest_book ≡ true
unfolding fullest_book fullest_from each_free codes_of msb all_free free enter
codes_free = refl

codes_pass : good_table fullest_book ≡ true
unfolding fullest_book fullest_from good_table
codes_pass = refl

whole : length fullest_book ≡ book_bytes
unfolding fullest_book fullest_from
whole = refl

bytes_from : (n e : ℕ) → e + n ≤ book_entries → Bytes (fullest_from n e)
unfolding fullest_from
bytes_from zero e h k = omega arith
bytes_from (suc n) e h zero = omega arith
bytes_from (suc n) e h (suc zero) = omega arith
bytes_from (suc n) e h (suc (suc zero)) = omega arith
bytes_from (suc n) e h (suc (suc (suc k))) = bytes_from n (suc e) (omega arith) k

pub longest_bytes : Bytes fullest_book
unfolding fullest_book
longest_bytes = bytes_from book_entries 0 (omega arith)

pub longest_passes : book_refusal fullest_book ≡ 0
unfolding book_refusal codes_refusal
longest_passes = rw (whole, codes_pass, each_free_lem code_table_sizes fullest_book codes_free)

pub longest-reached : length (book_file fullest_book) ≡ longest_book_file
unfolding file_length fullest_book fullest_from sum decimal digits_before
longest-reached = file_length_lem fullest_book ∙ refl
