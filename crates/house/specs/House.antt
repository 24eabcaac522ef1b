-- The house book and the house codebook by their rules (document 01, "The book").
use Rattle.std.specs.Prelude.{ℕ, zero, suc, ◌+◌, ◌-◌, ◌*◌, ◌/◌, ◌%◌, ◌<◌, ◌≡◌, List, [], ◌∷◌, ◌++◌, ltb, ℤ, pos, negsuc}
use Rattle.std.proofs.Math.IntN.{sub_ℕ}
use Rattle.bits.specs.Basics.{pick, values_from, signed_byte}
use Rattle.code_tables.specs.Codes.{code_val, code_len}
use Rattle.book.specs.Book.{book_entries, codebook_bytes, book_refusal}

-- floor of the logarithm to base 2, of a number below 2^fuel
unfoldable pub log_under : ℕ → ℕ → ℕ
log_under zero n = 0
log_under (suc f) n = pick (ltb n 2) 0 (suc (log_under f (n / 2)))

-- k of a signed number d: 2d - 1 if d is above 0, else -2d
unfoldable pub signed_rank : ℤ → ℕ
signed_rank (pos zero) = 0
signed_rank (pos (suc n)) = 2 * suc n - 1
signed_rank (negsuc n) = 2 * suc n

-- k of entry p of the book: mode (p + 1) mod 4; vector and intermean by their signed numbers; intramean its position; a stage entry its position mod 8
unfoldable pub rank : ℕ → ℕ
rank p =
    pick (ltb p 4) ((p + 1) % 4)
    (pick (ltb p 68) (signed_rank (sub_ℕ (p - 4) 32))
    (pick (ltb p 324) (p - 68)
    (pick (ltb p 836) (signed_rank (sub_ℕ (p - 324) 256)) ((p - 836) % 8))))

-- the entry: value k + 1, length 2 floor(log2(k + 1)) + 1
abbrev pub house_value : ℕ → ℕ
house_value p = rank p + 1

abbrev pub house_length : ℕ → ℕ
house_length p = 2 * log_under 16 (rank p + 1) + 1

-- its three bytes: the code's high byte, its low byte, its length
abbrev pub house_entry : ℕ → List ℕ
house_entry p = house_value p / 256 ∷ house_value p % 256 ∷ house_length p ∷ []

-- n entries from entry p on
unfoldable pub house_from : ℕ → ℕ → List ℕ
house_from zero p = []
house_from (suc n) p = house_entry p ++ house_from n (suc p)

unfoldable pub house_book : List ℕ
house_book = house_from book_entries 0

-- a table that is the house book: its bytes, the rule at each entry, and that none of 5, 6 and 7 refuses it
pub record HouseBook (t : List ℕ) : Type 0 where
  pub bytes : t ≡ house_book
  pub values : (p : ℕ) → p < book_entries → code_val t p ≡ house_value p
  pub lengths : (p : ℕ) → p < book_entries → code_len t p ≡ house_length p
  pub passes : book_refusal t ≡ 0

-- byte i of the house codebook: ((37 i + floor(i/16)) mod 61) - 30
abbrev pub house_sample : ℕ → ℤ
house_sample i = sub_ℕ ((37 * i + i / 16) % 61) 30

-- the codebook as it stands in memory, in two's complement bytes
unfoldable pub house_codebook : List ℕ
house_codebook = values_from (λ i. signed_byte (house_sample i)) codebook_bytes 0
