-- What writing and reading a leaf by two lent tables asks, and what it leaves: the stage table of the leaf's level and the mean table of its half (document 01, "Reading", refusals 10, 11, 24).
use Rattle.std.specs.Prelude.{ℕ, zero, suc, ◌+◌, ◌-◌, ◌*◌, ◌≤◌, ◌<◌, ◌≡◌, true, List, [], ◌∷◌, ◌++◌, length, take, drop, replicate, ℤ, Result, Ok, Err, IfOk}
use Rattle.bits.specs.Bits.{val_of}
use Rattle.code_tables.specs.Codes.{codes_of, good_table, Got, got, bad, then, take_code}
use Rattle.bits.specs.BitNeeds.{Fits}
use Rattle.bits.specs.Refusals.{number_of}
use Rattle.bits.specs.declared.refusal.Refusal.{Refusal}
use Rattle.book.specs.Book.{Tables, tables_of}
use Rattle.book.specs.BookLaws.{means}
use Rattle.book.specs.declared.svq1_vlc.Svq1Half.{Svq1Half}
use Rattle.codebook.specs.Mean.{mean_position, mean_at}
use Rattle.leaf.specs.Leaf.{Leaf, skip, coded}
use Rattle.leaf.specs.LeafBits.{leaf_bits, read_stages, read_rest}
use Rattle.leaf.specs.LeafForms.{leaf_of}
use Rattle.leaf.specs.declared.svq1_plane.inner.ReadLeaf.{ReadLeaf}
use Rattle.leaf.specs.declared.svq1_enc_leaf.LeafCode.{LeafCode}
use Rattle.leaf.specs.declared.svq1_enc_leaf.LeafCode.TheVariants.{Skip, Coded}

-- the codes of the two tables; the stage table is that of the level in hand, whichever it is
abbrev pub lent_tables : Svq1Half → List ℕ → List ℕ → Tables
lent_tables h stage mean = record { half = h; stage = λ d. codes_of stage; mean = codes_of mean }

-- a leaf's bits by them (for a book's tables: `book_bits_lem`)
abbrev pub lent_bits : Svq1Half → List ℕ → List ℕ → Leaf → List ℕ
lent_bits h stage mean l = leaf_bits (lent_tables h stage mean) 0 l

-- as many means as the half has, and eight stage entries, none of them refused by 6
pub record MeanTable (h : Svq1Half) (mean : List ℕ) : Type 0 where
  pub size : length mean ≡ 3 * means h
  pub good : good_table mean ≡ true

pub record LentTables (h : Svq1Half) (stage mean : List ℕ) : Type 0 where
  pub stage_size : length stage ≡ 24
  pub stage_good : good_table stage ≡ true
  pub means : MeanTable h mean

-- the code's mean has an entry
abbrev pub CodeFits : Svq1Half → LeafCode → Type 0
CodeFits h Skip = Unit
CodeFits h (Coded m n) = mean_position h m < means h

-- what writing a leaf asks: good tables, a mean that has an entry, room for the bits in a string of so many bytes
pub record Writable (h : Svq1Half) (stage mean : List ℕ) (c : LeafCode) (js : List ℕ) (bytes at : ℕ) : Type 0 where
  pub tables : LentTables h stage mean
  pub known : CodeFits h c
  pub room : Fits bytes at (length (lent_bits h stage mean (leaf_of c js)))

-- how many bits a leaf of this code has, whatever its six stage indices
abbrev pub LeafSize : Svq1Half → List ℕ → List ℕ → LeafCode → ℕ → Type 0
LeafSize h stage mean c r = (js : List ℕ) → length js ≡ 6 → r ≡ length (lent_bits h stage mean (leaf_of c js))

-- ---- reading
-- what the answer says of the bits that were read: the leaf and the bits left, or the refusal
abbrev pub leaf_got : List ℕ → Result ReadLeaf Refusal → Got Leaf
leaf_got bits (Ok r) = got (leaf_of r.code r.stages) (drop r.next bits)
leaf_got bits (Err e) = bad (number_of e)

-- a leaf's one form in memory: its code counts its stages, and the indices behind them are 0
abbrev pub padded : List ℕ → List ℕ
padded js = js ++ replicate (6 - length js) 0

abbrev pub code_of : Leaf → LeafCode
code_of skip = Skip
code_of (coded m js) = Coded m (length js)

abbrev pub six_of : Leaf → List ℕ
six_of skip = replicate 6 0
six_of (coded m js) = padded js

pub record Clean (c : LeafCode) (js : List ℕ) : Type 0 where
  pub code : c ≡ code_of (leaf_of c js)
  pub stages : js ≡ six_of (leaf_of c js)

-- the answer r is what reading gives; the next bit of a leaf lies in the string, and the leaf has the one form
pub record LeafRead (bits : List ℕ) (g : Got Leaf) (r : Result ReadLeaf Refusal) : Type 0 where
  pub leaf : leaf_got bits r ≡ g
  pub within : IfOk r (λ x. x.next ≤ length bits)
  pub clean : IfOk r (λ x. Clean x.code x.stages)

-- the indices of n stages from bit `at` on
unfoldable pub nibbles : List ℕ → ℕ → ℕ → List ℕ
nibbles bits at zero = []
nibbles bits at (suc n) = val_of (take 4 (drop at bits)) ∷ nibbles bits (at + 4) n

-- what stands behind the mean m: n stages
abbrev pub read_indices : ℤ → ℕ → List ℕ → Got Leaf
read_indices m n bits = then (read_stages n bits) (λ js q. got (coded m js) q)

-- what stands behind a stage code that counts n stages
abbrev pub read_mean : Svq1Half → List ℕ → ℕ → List ℕ → Got Leaf
read_mean h mean n bits = then (take_code (codes_of mean) bits) (λ k r. read_indices (mean_at h k) n r)

-- what stands behind the stage code at position k, by the mean table alone
abbrev pub lent_rest : Svq1Half → List ℕ → ℕ → ℕ → List ℕ → Got Leaf
lent_rest h mean d k bits = read_rest (lent_tables h [] mean) d k bits

-- how many bits a leaf of this code has by a book, whatever its six stage indices
abbrev pub BookLeafSize : List ℕ → Svq1Half → ℕ → LeafCode → ℕ → Type 0
BookLeafSize book h d c r = (js : List ℕ) → length js ≡ 6 → r ≡ length (leaf_bits (tables_of book h) d (leaf_of c js))
