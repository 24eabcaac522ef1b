-- What document 02, §3, asks of the printed house book and codebook, sentence by sentence, of the definitions. Assumes nothing.
use Rattle.std.specs.Prelude.{ℕ, zero, suc, ◌<◌, ◌≡◌, refl, Bool, true, false, List, [], ◌∷◌, ◌++◌, ltb, length, get_or, Some}
use Rattle.std.proofs.Common.{sym, ap, ◌∙◌, true≢false, append_assoc, arith, length-append, ltb-true}
use Rattle.bits.specs.Basics.{pick, Bytes, every, values_from, sum, signed_byte}
use Rattle.bits.specs.SignedLaws.{byte_back}
use Rattle.text.specs.Text.{line_feed, lines_of, signed64, decimal, digits_before, signed_decimal}
use Rattle.text.specs.ReadingForms.{line_before}
use Rattle.text.specs.TextLaws.{lines_none}
use Rattle.text.specs.WritingFormsLaws.{lines_joined}
use Rattle.text.specs.SignedLaws.{small_between, signed_text, signed_without}
use Rattle.book.specs.Book.{codebook_bytes}
use Rattle.house.specs.House.{log_under, signed_rank, rank, house_from, house_book, house_sample, house_codebook}
use Rattle.house.specs.HouseLaws.{house_book_lem, length_house_book, sample_small}
use Rattle.book_file.specs.BookFile.{book_file, file_refusal, file_book}
use Rattle.book_file.specs.FileLength.{file_length}
use Rattle.book_file.specs.FileLengthLaws.{file_length_lem}
use Rattle.book_file.specs.BookFileLaws.{filed}
use Rattle.house_text.specs.HouseText.{number_line, number_lines, tables_printed, house_printed, house_printed_bytes}

-- ---- its length
file_bytes : length (book_file house_book) ≡ 18356
unfolding file_length house_book house_from rank signed_rank log_under sum decimal digits_before
file_bytes = file_length_lem house_book ∙ refl

number_bytes : length (number_lines house_codebook) ≡ 73275
unfolding house_codebook values_from number_lines number_line signed_decimal decimal digits_before
number_bytes = refl

printed_bytes : length house_printed ≡ house_printed_bytes
unfolding house_printed tables_printed
printed_bytes = length-append (book_file house_book) (number_lines house_codebook) ∙ omega (arith, file_bytes, number_bytes)

-- ---- the book's part
-- every element of the book is a byte, by one computed test
bytes_tested : every (λ b. ltb b 256) house_book ≡ true
unfolding every house_book house_from rank signed_rank log_under
bytes_tested = refl

bytes_all : (xs : List ℕ) → every (λ b. ltb b 256) xs ≡ true → Bytes xs
unfolding every
bytes_all [] e k = omega arith
bytes_all (x ∷ xs) e k = go (ltb x 256) refl e (λ h. bytes_all xs h) k
  where
    go : (b : Bool) → ltb x 256 ≡ b → pick b (every (λ c. ltb c 256) xs) false ≡ true → (every (λ c. ltb c 256) xs ≡ true → Bytes xs) → (k : ℕ) → get_or (x ∷ xs) k 0 < 256
    go true q h next zero = ltb-true x 256 q
    go true q h next (suc k) = next h k
    go false q h next k = absurd (true≢false (sym h))

file_read : (file_refusal (book_file house_book) ≡ 0) × (file_book (book_file house_book) ≡ house_book)
file_read =
    let f = filed house_book (bytes_all house_book bytes_tested) length_house_book in
    (f.refused ∙ house_book_lem.passes, f.holds)

-- ---- the codebook's part
-- line i is the rule's number of place i
lines_from : (n j : ℕ) → lines_of (number_lines (values_from (λ i. signed_byte (house_sample i)) n j)) ≡ Some (values_from (λ i. signed_decimal (house_sample i)) n j)
unfolding values_from number_lines number_line
lines_from zero j = lines_none [] refl
lines_from (suc n) j =
    let z = house_sample j in
    let rest = number_lines (values_from (λ i. signed_byte (house_sample i)) n (suc j)) in
    rw (byte_back z (sample_small j), append_assoc (signed_decimal z) (line_feed ∷ []) rest)
    (lines_joined (signed_decimal z) rest (signed_without line_feed refl refl z) ∙ ap (line_before (signed_decimal z)) (lines_from n (suc j)))

number_lines_lem : lines_of (number_lines house_codebook) ≡ Some (values_from (λ i. signed_decimal (house_sample i)) codebook_bytes 0)
unfolding house_codebook
number_lines_lem = lines_from codebook_bytes 0

-- and is read as it
number_read : (i : ℕ) → signed64 (signed_decimal (house_sample i)) ≡ Some (house_sample i)
number_read i = (signed_text 9223372036854775808 9223372036854775807 (omega arith) (omega arith) (house_sample i) (small_between 9223372036854775808 9223372036854775807 (house_sample i) (omega (arith, sample_small i)) (omega (arith, sample_small i)))).back

pub record HousePrinted : Type 0 where
  -- what is printed is the built-in book's file and behind it the built-in codebook's lines
  pub parts : house_printed ≡ book_file house_book ++ number_lines house_codebook
  pub bytes : length house_printed ≡ house_printed_bytes
  -- the file is read as the built-in book
  pub book : (file_refusal (book_file house_book) ≡ 0) × (file_book (book_file house_book) ≡ house_book)
  -- the lines are 23,040 numbers: at each place the rule's, which is read from its line
  pub numbers : lines_of (number_lines house_codebook) ≡ Some (values_from (λ i. signed_decimal (house_sample i)) codebook_bytes 0)
  pub number : (i : ℕ) → signed64 (signed_decimal (house_sample i)) ≡ Some (house_sample i)

pub house_printed_lem : HousePrinted
unfolding house_printed tables_printed
house_printed_lem = record { parts = refl; bytes = printed_bytes; book = file_read; numbers = number_lines_lem; number = number_read }
