-- The book of code tables, its order in memory, and what refuses it (document 01, "The book", refusals 5, 6, 7).
use Rattle.std.specs.Prelude.{ℕ, ◌*◌, Bool, true, ◌&&◌, List, [], ◌∷◌, eqb, length, take, drop}
use Rattle.bits.specs.Basics.{or_else, unless}
use Rattle.code_tables.specs.Codes.{codes_of, good_table, prefix_free}
use Rattle.book.specs.declared.svq1_vlc.Svq1Half.{Svq1Half}
use Rattle.book.specs.declared.svq1_vlc.Svq1Half.TheVariants.{Intra, Inter}

-- a lent book holds mode, vector, intramean, intermean, intrastage, interstage in this order: 4 + 64 + 256 + 512 + 48 + 48 entries, of three bytes each
abbrev pub book_entries : ℕ
book_entries = 932

abbrev pub book_bytes : ℕ
book_bytes = 3 * book_entries

abbrev pub codebook_bytes : ℕ
codebook_bytes = 23040

-- n entries of a book from entry `from` on
abbrev pub entries : ℕ → ℕ → List ℕ → List ℕ
entries from n book = take (3 * n) (drop (3 * from) book)

-- ---- the tables by name
abbrev pub mode_table : List ℕ → List ℕ
mode_table = entries 0 4

abbrev pub vector_table : List ℕ → List ℕ
vector_table = entries 4 64

-- positions: the mean for intra, the mean + 256 for inter
abbrev pub mean_table : Svq1Half → List ℕ → List ℕ
mean_table Intra = entries 68 256
mean_table Inter = entries 324 512

-- a half's stage family, and in it level d's eight entries, at 8 × level + count + 1, where a count of -1 means skip
abbrev pub stage_family : Svq1Half → List ℕ → List ℕ
stage_family Intra = entries 836 48
stage_family Inter = entries 884 48

abbrev pub stage_table : ℕ → List ℕ → List ℕ
stage_table d family = entries (8 * d) 8 family

-- a half's two kinds of codes
pub record Tables : Type 0 where
  pub half : Svq1Half
  pub stage : ℕ → List (List ℕ)
  pub mean : List (List ℕ)

abbrev pub tables_of : List ℕ → Svq1Half → Tables
tables_of book h = record { half = h; stage = λ d. codes_of (stage_table d (stage_family h book)); mean = codes_of (mean_table h book) }

-- ---- refusals
-- the sixteen code tables by their entries: mode, vector, the two means, and of each half each level's eight stage entries
abbrev pub code_table_sizes : List ℕ
code_table_sizes = 4 ∷ 64 ∷ 256 ∷ 512 ∷ 8 ∷ 8 ∷ 8 ∷ 8 ∷ 8 ∷ 8 ∷ 8 ∷ 8 ∷ 8 ∷ 8 ∷ 8 ∷ 8 ∷ []

-- in each of the tables of these many entries, one behind the other, no code begins another or equals it
unfoldable pub each_prefix_free : List ℕ → List ℕ → Bool
each_prefix_free [] t = true
each_prefix_free (n ∷ ns) t = prefix_free (codes_of (take (3 * n) t)) && each_prefix_free ns (drop (3 * n) t)

-- 6: a length outside 1..32 or a value not below 2^length. 7: in one of the sixteen tables a code begins another or equals it
unfoldable pub codes_refusal : List ℕ → ℕ
codes_refusal book = or_else (unless (good_table book) 6) (unless (each_prefix_free code_table_sizes book) 7)

-- of a lent book: 5 where its size is another, else 6 or 7; 0 for none
unfoldable pub book_refusal : List ℕ → ℕ
book_refusal book = or_else (unless (eqb (length book) book_bytes) 5) (codes_refusal book)

-- of a lent book and codebook: 5 where either has another size, else 6 or 7 of the book
unfoldable pub data_refusal : List ℕ → List ℕ → ℕ
data_refusal book codebook = or_else (unless (eqb (length codebook) codebook_bytes) 5) (book_refusal book)
