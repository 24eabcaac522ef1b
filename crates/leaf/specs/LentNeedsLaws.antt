-- Laws of leaves written by lent tables.
-- Assumes nothing.
use Rattle.std.specs.Prelude.{ℕ, ◌+◌, ◌-◌, ◌*◌, ◌/◌, ◌≤◌, ◌<◌, min, ◌≡◌, refl, true, List, [], ◌∷◌, ◌++◌, ℤ, length, take, drop, get_or, replicate}
use Rattle.std.proofs.Common.{sym, ap, ◌∙◌, append_assoc, append-nil, arith, add-one, length-take, take-append-drop, take-suc, length-take-le}
use Rattle.bits.specs.Bits.{msb}
use Rattle.bits.specs.ReadLaws.{take_min}
use Rattle.code_tables.specs.Codes.{code, codes_of, code_len, good_table}
use Rattle.code_tables.specs.CodesLaws.{code-length, good_is}
use Rattle.bits.specs.BitNeeds.{Fits, Wrote}
use Rattle.code_tables.specs.CodeNeeds.{GoodEntry}
use Rattle.bits.specs.BitNeedsLaws.{wrote_none, wrote_more, wrote_size}
use Rattle.book.specs.Book.{Tables, tables_of, stage_table, stage_family, mean_table, book_refusal}
use Rattle.book.specs.BookLaws.{means, good_book}
use Rattle.book.specs.declared.svq1_vlc.Svq1Half.{Svq1Half}
use Rattle.codebook.specs.Mean.{mean_position}
use Rattle.leaf.specs.Leaf.{Leaf, skip, coded}
use Rattle.leaf.specs.LeafBits.{stage_bits, leaf_bits}
use Rattle.leaf.specs.LeafBitsLaws.{AllowedLeaf, length_leaf}
use Rattle.leaf.specs.LeafForms.{leaf_of}
use Rattle.leaf.specs.LentNeeds.{lent_tables, lent_bits, LentTables, CodeFits, Clean}
use Rattle.leaf.specs.declared.svq1_enc_leaf.LeafCode.{LeafCode}
use Rattle.leaf.specs.declared.svq1_enc_leaf.LeafCode.TheVariants.{Skip, Coded}

-- ---- a book's tables, lent
-- by a book's two tables for level d, a leaf's bits are those by the book
pub book_bits_lem : (book : List ℕ) (h : Svq1Half) (d : ℕ) (l : Leaf)
    → lent_bits h (stage_table d (stage_family h book)) (mean_table h book) l ≡ leaf_bits (tables_of book h) d l
unfolding leaf_bits
book_bits_lem book h d skip = refl
book_bits_lem book h d (coded m js) = refl

pub book_tables : (book : List ℕ) → book_refusal book ≡ 0 → (h : Svq1Half) (d : ℕ) → d ≤ 5
    → LentTables h (stage_table d (stage_family h book)) (mean_table h book)
book_tables book e h d l =
    let g = good_book book e in
    let s = g.stage h d l in
    let m = g.mean h in
    record { stage_size = s.size; stage_good = s.good; means = record { size = m.size; good = m.good } }

-- a leaf that may stand somewhere has a mean with an entry
pub allowed-fits : (T : Tables) (d : ℕ) (c : LeafCode) (js : List ℕ) → AllowedLeaf T d (leaf_of c js) → CodeFits T.half c
allowed-fits T d Skip js a = tt
allowed-fits T d (Coded m n) js a = a.place

-- ---- the stages' bits, one behind the other
stages-join : (xs ys : List ℕ) → stage_bits (xs ++ ys) ≡ stage_bits xs ++ stage_bits ys
unfolding stage_bits
stages-join [] ys = refl
stages-join (x ∷ xs) ys = rw (stages-join xs ys) (sym (append_assoc (msb 4 x) (stage_bits xs) (stage_bits ys)))

stages_more : (js : List ℕ) (i : ℕ) → i < length js → stage_bits (take (i + 1) js) ≡ stage_bits (take i js) ++ msb 4 (get_or js i 0)
unfolding stage_bits
stages_more js i h =
    rw (add-one, take-suc js i 0 h) (stages-join (take i js) (get_or js i 0 ∷ []) ∙ ap (λ (l : List ℕ). stage_bits (take i js) ++ l) (append-nil (msb 4 (get_or js i 0))))

pub wrote_start : (out : List ℕ) (at : ℕ) → Wrote out at (stage_bits []) at out
unfolding stage_bits
wrote_start out at = wrote_none out at

-- one stage more
pub stage_put : {out mid left : List ℕ} {at p q : ℕ} (js : List ℕ) (i v : ℕ) → i < length js → v ≡ get_or js i 0 → at ≤ 8 * length out
    → Wrote out at (stage_bits (take i js)) p mid → Wrote mid p (msb 4 v) q left → Wrote out at (stage_bits (take (i + 1) js)) q left
stage_put js i v h e room one two = rw (stages_more js i h, ← e) (wrote_more room one two)

-- ---- a coded leaf
-- as many stages as the code counts, but no more than six
few : (js : List ℕ) (count : ℕ) → length js ≡ 6 → take (min count 6) js ≡ take count js
few js count e = rw (← e) (take_min count js)

few_length : (js : List ℕ) (count : ℕ) → length js ≡ 6 → length (take count js) ≡ min count 6
few_length js count e = length-take count js ∙ rw e

entry : (t : List ℕ) (n k : ℕ) → good_table t ≡ true → length t ≡ 3 * n → k < n → GoodEntry t k
entry t n k g s h =
    let there : k < length t / 3 = omega arith in
    record { there = there; long = (good_is t g).long k there }

-- what writing the parts of a coded leaf asks
pub record LeafParts (stage mean : List ℕ) (n k bytes at : ℕ) : Type 0 where
  pub stage_entry : GoodEntry stage (n + 1)
  pub mean_entry : GoodEntry mean k
  pub whole : Fits bytes at (code_len stage (n + 1) + code_len mean k + 4 * n)

module _ (h : Svq1Half) (stage mean : List ℕ) (t : LentTables h stage mean) (m : ℤ) (count n k : ℕ)
    (place : mean_position h m < means h) (counted : n ≡ min count 6) (placed : k ≡ mean_position h m) where
  pub coded_entries : GoodEntry stage (n + 1) × GoodEntry mean k
  coded_entries =
      (entry stage 8 (n + 1) t.stage_good t.stage_size (omega arith), entry mean (means h) k t.means.good t.means.size (rw placed place))

module _ (h : Svq1Half) (stage mean js : List ℕ) (t : LentTables h stage mean) (six : length js ≡ 6) (m : ℤ) (count n k : ℕ)
    (place : mean_position h m < means h) (counted : n ≡ min count 6) (placed : k ≡ mean_position h m) where
  stage_entry : GoodEntry stage (n + 1)
  stage_entry = (coded_entries h stage mean t m count n k place counted placed).0

  mean_entry : GoodEntry mean k
  mean_entry = (coded_entries h stage mean t m count n k place counted placed).1

  pub coded_size : length (lent_bits h stage mean (leaf_of (Coded m count) js)) ≡ code_len stage (n + 1) + code_len mean k + 4 * n
  coded_size =
      length_leaf (lent_tables h stage mean) 0 m (take count js)
      ∙ rw (few_length js count six, ← counted, ← placed, ← add-one, code-length stage (n + 1) stage_entry.there, code-length mean k mean_entry.there)

  pub coded_parts : (bytes at : ℕ) → Fits bytes at (length (lent_bits h stage mean (leaf_of (Coded m count) js))) → LeafParts stage mean n k bytes at
  coded_parts bytes at f = record { stage_entry = stage_entry; mean_entry = mean_entry; whole = rw coded_size at f }

  -- the parts, written one behind the other
  pub coded_wrote : (out a b left : List ℕ) (at p q r : ℕ) → at + (code_len stage (n + 1) + code_len mean k + 4 * n) ≤ 8 * length out
      → Wrote out at (code (codes_of stage) (n + 1)) p a → Wrote a p (code (codes_of mean) k) q b → Wrote b q (stage_bits (take n js)) r left
      → Wrote out at (lent_bits h stage mean (leaf_of (Coded m count) js)) r left
  unfolding leaf_bits
  coded_wrote out a b left at p q r room one two three =
      let sl = code-length stage (n + 1) stage_entry.there in
      let size = wrote_size {at = at} (omega (arith, sl)) one in
      let rest = wrote_more {at = p} (omega (arith, one.behind, sl, size)) two three in
      rw (few_length js count six, ← few js count six, ← counted, ← placed, ← add-one) (wrote_more {at = at} (omega arith) one rest)

-- skip
module _ (h : Svq1Half) (stage mean js : List ℕ) (t : LentTables h stage mean) where
  pub skip_entry : GoodEntry stage 0
  skip_entry = entry stage 8 0 t.stage_good t.stage_size (omega arith)

  pub skip_size : length (lent_bits h stage mean (leaf_of Skip js)) ≡ code_len stage 0
  unfolding leaf_bits
  skip_size = code-length stage 0 skip_entry.there

  pub skip_wrote : (out left : List ℕ) (at r : ℕ) → Wrote out at (code (codes_of stage) 0) r left → Wrote out at (lent_bits h stage mean (leaf_of Skip js)) r left
  unfolding leaf_bits
  skip_wrote out left at r w = w

-- ---- a leaf's one form
-- as many stages as are counted, and zeros behind them
pub coded_clean : (m : ℤ) (n : ℕ) (js : List ℕ) → n ≤ 6 → length js ≡ 6 → drop n js ≡ replicate (6 - n) 0 → Clean (Coded m n) js
coded_clean m n js h six e =
    let size : length (take n js) ≡ n = length-take-le n js (omega arith) in
    record { code = rw size; stages = rw (size, ← e) (sym (take-append-drop n js)) }

-- skip has none
pub skip_clean : (js : List ℕ) → js ≡ replicate 6 0 → Clean Skip js
skip_clean js e = record { code = refl; stages = e }
