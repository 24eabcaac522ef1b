-- What filling a slice with a table of the house answers and leaves (document 01, refusal 5).
use Rattle.std.specs.Prelude.{ℕ, ◌<◌, ◌≡◌, List, eqb, length, get_or}
use Rattle.bits.specs.Basics.{pick, unless, signed_of}
use Rattle.book.specs.Book.{book_bytes, codebook_bytes}
use Rattle.house.specs.House.{house_book, HouseBook, house_sample, house_codebook}

-- a slice of `size` bytes holds `whole` at the end; any other is refused with 5 and stays
pub record Filled (size : ℕ) (whole out : List ℕ) (r : ℕ) (left : List ℕ) : Type 0 where
  pub answer : r ≡ unless (eqb (length out) size) 5
  pub bytes : left ≡ pick (eqb (length out) size) whole out

-- of the house book: what was filled in is the house book by its rule, and none of 5, 6 and 7 refuses it
pub record BookFilled (out : List ℕ) (r : ℕ) (left : List ℕ) : Type 0 where
  pub filled : Filled book_bytes house_book out r left
  pub holds : r ≡ 0 → HouseBook left

-- of the house codebook: each of its places holds the rule's number
pub record CodebookFilled (out : List ℕ) (r : ℕ) (left : List ℕ) : Type 0 where
  pub filled : Filled codebook_bytes house_codebook out r left
  pub holds : r ≡ 0 → (i : ℕ) → i < codebook_bytes → signed_of (get_or left i 0) ≡ house_sample i
