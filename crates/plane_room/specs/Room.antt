-- The room that always suffices: how many bytes a plane takes at most. Document 01 has no rule for it; it follows from what a macroblock's bits are ("Reading") and from refusals 6 and 22.
use Rattle.std.specs.Prelude.{ℕ, ◌+◌, ◌*◌, ◌/◌, ◌≤◌, max, List, [], ◌∷◌, ◌≡◌, length}
use Rattle.bits.specs.Bits.{bits_of}
use Rattle.book.specs.Book.{mode_table, vector_table, mean_table, stage_family}
use Rattle.book.specs.declared.svq1_vlc.Svq1Half.TheVariants.{Intra, Inter}
use Rattle.macroblock.specs.Macroblock.{Given}
use Rattle.macroblock.specs.Choice.{Task}
use Rattle.macroblock.specs.Slices.{Slices}
use Rattle.plane.specs.Plane.{count, write_plane}
use Rattle.plane.specs.Refusals.{write_refusal}
use Rattle.plane.specs.Calls.{write_answer}
use Rattle.claim.specs.Claim.{InMemory}

-- the length of a table's longest code, 0 where it has none; an entry is three bytes, the last of them the length
unfoldable pub longest : List ℕ → ℕ
longest [] = 0
longest (h ∷ []) = 0
longest (h ∷ l ∷ []) = 0
longest (h ∷ l ∷ n ∷ t) = max n (longest t)

-- the most bits of a macroblock whose codes have at most m bits for a mode, v for a vector component, s for a stage count and u for a mean:
-- the mode, eight components, 31 flags of a tree that is split everywhere, and its 32 leaves of a stage code, a mean and six stages of four bits
abbrev pub most_bits : ℕ → ℕ → ℕ → ℕ → ℕ
most_bits m v s u = m + 8 * v + (31 + 32 * (s + u + 24))

-- under a book: by the longest codes of its tables, those of both halves
unfoldable pub book_bits : List ℕ → ℕ
book_bits book =
    most_bits (longest (mode_table book)) (longest (vector_table book)) (max (longest (stage_family Intra book)) (longest (stage_family Inter book)))
    (max (longest (mean_table Intra book)) (longest (mean_table Inter book)))

-- under any book that passes: no code is longer than 32 bits (refusal 6)
abbrev pub any_bits : ℕ
any_bits = most_bits 32 32 32 32

-- the bytes that hold so many bits for each of so many macroblocks
abbrev pub room_bytes : ℕ → ℕ → ℕ
room_bytes bits macroblocks = (bits * macroblocks + 7) / 8

-- ---- what suffices
-- the plane is written to its last macroblock, and the call answers that
pub record WrittenWhole (g : Given) (t : Task) (out : List ℕ) (start : ℕ) (s : Slices) : Type 0 where
  pub refusal : (write_plane g t (bits_of out) start s).refusal ≡ 0
  pub done : (write_plane g t (bits_of out) start s).done ≡ count g
  pub answer_refusal : (write_answer g t out start s).refusal ≡ 0
  pub answer_done : (write_answer g t out start s).done ≡ count g

-- what a call of the writer with room answers: a refusal for what is lent or none, and never 22; where there is none, the plane is written whole
pub record HasRoom (g : Given) (t : Task) (out : List ℕ) (start : ℕ) (s : Slices) : Type 0 where
  pub told : (write_answer g t out start s).refusal ≡ write_refusal g t out start s
  pub never_22 : (write_answer g t out start s).refusal ≡ 22 → ⊥
  pub whole : write_refusal g t out start s ≡ 0 → WrittenWhole g t out start s

-- so many bytes suffice for every plane of a kind: each of its calls with so many bytes behind the start bit has room. The source and the reference are byte slices, which in memory they always are
abbrev pub Suffices : (Given → Type 0) → ℕ → Type 0
Suffices Kind bytes =
    (g : Given) (t : Task) (out : List ℕ) (start : ℕ) (s : Slices) → Kind g → InMemory g t → start + 8 * bytes ≤ 8 * length out
    → HasRoom g t out start s

-- planes of a size, under any book and under one
abbrev pub OfSize : ℕ → ℕ → Given → Type 0
OfSize width height g = (g.width ≡ width) × (g.height ≡ height)

abbrev pub OfSizeUnder : ℕ → ℕ → List ℕ → Given → Type 0
OfSizeUnder width height book g = (g.width ≡ width) × (g.height ≡ height) × (g.book ≡ book)
