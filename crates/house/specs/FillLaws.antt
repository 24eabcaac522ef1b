-- Laws of the calls that fill a slice.
use Rattle.std.specs.Prelude.{ℕ, ◌≡◌, List, length}
use Rattle.std.proofs.Common.{arith, eq-eqb, ne_eqb}
use Rattle.book.specs.Book.{codebook_bytes}
use Rattle.house.specs.House.{house_codebook}
use Rattle.house.specs.HouseLaws.{house_number_at}
use Rattle.house.specs.Fill.{Filled, CodebookFilled}

-- what a call that fills answers and leaves
pub fill_refused : (size : ℕ) (whole out : List ℕ) → (length out ≡ size → ⊥) → Filled size whole out 5 out
fill_refused size whole out h = record { answer = rw (ne_eqb (length out) size h); bytes = rw (ne_eqb (length out) size h) }

pub fill_done : (size : ℕ) (whole out left : List ℕ) → length out ≡ size → left ≡ whole → Filled size whole out 0 left
fill_done size whole out left n e = record { answer = rw (eq-eqb (length out) size n); bytes = rw (eq-eqb (length out) size n) e }

-- a slice of the size holds the whole table
pub fill_whole : (size : ℕ) (whole out left : List ℕ) (r : ℕ) → length out ≡ size → Filled size whole out r left → left ≡ whole
fill_whole size whole out left r n f = rw (eq-eqb (length out) size n) at f.bytes

-- of the codebook
pub codebook_refused : (out : List ℕ) → (length out ≡ codebook_bytes → ⊥) → CodebookFilled out 5 out
codebook_refused out h = record { filled = fill_refused codebook_bytes house_codebook out h; holds = λ e. absurd (omega arith) }

pub codebook_done : (out left : List ℕ) → length out ≡ codebook_bytes → left ≡ house_codebook → CodebookFilled out 0 left
codebook_done out left n e = record { filled = fill_done codebook_bytes house_codebook out left n e; holds = λ z i h. rw e (house_number_at i h) }
