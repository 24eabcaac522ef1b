-- Laws of the book: what a book that passes holds. Upper layers cite good_book.
use Rattle.std.specs.Prelude.{ℕ, zero, suc, ◌+◌, ◌-◌, ◌*◌, ◌/◌, ◌≤◌, ◌<◌, ◌≡◌, true, ◌&&◌, List, [], ◌∷◌, ◌++◌, eqb, length, take, drop, get_or, replicate}
use Rattle.std.proofs.Math.Path.{refl}
use Rattle.std.proofs.Common.{sym, ap, ◌∙◌, arith, not-suc-le-zero, le_of_suc-le-suc, zero-add, add-one, length-drop, drop_of_length-le, get_or-append-add, take-take, drop-drop, drop-cons, length-take-le, eqb-true}
use Rattle.std.proofs.lemmas.List.{get_or-replicate}
use Rattle.std.proofs.Math.Seq.{take-nil, take-append-add}
use Rattle.bits.specs.Basics.{every, unless}
use Rattle.bits.specs.BasicsLaws.{both_true, or_none, unless-none}
use Rattle.code_tables.specs.Codes.{code, codes_of, good_table, prefix_free}
use Rattle.code_tables.specs.CodeNeeds.{GoodEntry}
use Rattle.code_tables.specs.Calls.{one_of, table_bytes}
use Rattle.code_tables.specs.CodesLaws.{length_codes_of, code_most, good_is, good_take, good_drop}
use Rattle.book.specs.Book.{book_bytes, codebook_bytes, entries, mode_table, vector_table, mean_table, stage_family, stage_table, Tables, tables_of, code_table_sizes, each_prefix_free, codes_refusal, book_refusal, data_refusal}
use Rattle.book.specs.declared.svq1_vlc.Svq1Half.{Svq1Half}
use Rattle.book.specs.declared.svq1_vlc.Svq1Half.TheVariants.{Intra, Inter}

-- each of the sixteen tables has a size that a table lent alone may have
pub sizes_taken : every (λ n. one_of table_bytes (3 * n)) code_table_sizes ≡ true
unfolding every one_of
sizes_taken = refl

-- ---- tables one behind the other
-- how many entries there are in all
unfoldable pub sizes_sum : List ℕ → ℕ
sizes_sum [] = 0
sizes_sum (n ∷ ns) = n + sizes_sum ns

pub total-step : (ns : List ℕ) (i : ℕ) → i < length ns → sizes_sum (drop i ns) ≡ get_or ns i 0 + sizes_sum (drop (i + 1) ns)
unfolding sizes_sum
total-step ns i h = rw add-one (ap sizes_sum (drop-cons ns i 0 h))

-- the test of the tables from table i on, where p entries stand before it
pub each_step : (ns t : List ℕ) (i p : ℕ) → i < length ns
    → each_prefix_free (drop i ns) (drop (3 * p) t)
    ≡ (prefix_free (codes_of (take (3 * get_or ns i 0) (drop (3 * p) t))) && each_prefix_free (drop (i + 1) ns) (drop (3 * (p + get_or ns i 0)) t))
unfolding each_prefix_free
each_step ns t i p h =
    let n : ℕ = get_or ns i 0 in
    let e : 3 * (p + n) ≡ 3 * p + 3 * n = omega arith in
    rw (add-one, e, ← drop-drop (3 * n) (3 * p) t) (ap (λ (l : List ℕ). each_prefix_free l (drop (3 * p) t)) (drop-cons ns i 0 h))

pub each_end : (ns t : List ℕ) (i : ℕ) → length ns ≤ i → each_prefix_free (drop i ns) t ≡ true
unfolding each_prefix_free
each_end ns t i h = rw (drop_of_length-le ns h)

-- so each of the tables is prefix-free
each_at : (ns t : List ℕ) (i : ℕ) → each_prefix_free ns t ≡ true → i < length ns → prefix_free (codes_of (entries (sizes_sum (take i ns)) (get_or ns i 0) t)) ≡ true
unfolding each_prefix_free sizes_sum
each_at [] t i e h = absurd (not-suc-le-zero h)
each_at (n ∷ ns) t zero e h = (both_true (prefix_free (codes_of (take (3 * n) t))) (each_prefix_free ns (drop (3 * n) t)) e).0
each_at (n ∷ ns) t (suc i) e h =
    let two = both_true (prefix_free (codes_of (take (3 * n) t))) (each_prefix_free ns (drop (3 * n) t)) e in
    let m : ℕ = sizes_sum (take i ns) in
    let k : 3 * (n + m) ≡ 3 * n + 3 * m = omega arith in
    rw (k, ← drop-drop (3 * m) (3 * n) t) (each_at ns (drop (3 * n) t) i two.1 (le_of_suc-le-suc h))

-- the tables are the first four and then twelve of eight entries
first_four : List ℕ
first_four = 4 ∷ 64 ∷ 256 ∷ 512 ∷ []

total-append : (xs ys : List ℕ) → sizes_sum (xs ++ ys) ≡ sizes_sum xs + sizes_sum ys
unfolding sizes_sum
total-append [] ys = sym (zero-add (sizes_sum ys))
total-append (x ∷ xs) ys = omega (arith, total-append xs ys)

total_eights : (n i : ℕ) → i ≤ n → sizes_sum (take i (replicate n 8)) ≡ 8 * i
unfolding sizes_sum
total_eights n zero h = refl
total_eights zero (suc i) h = absurd (not-suc-le-zero h)
total_eights (suc n) (suc i) h = omega (arith, total_eights n i (le_of_suc-le-suc h))

stage_start : (i : ℕ) → i < 12 → sizes_sum (take (4 + i) code_table_sizes) ≡ 836 + 8 * i
unfolding first_four sizes_sum
stage_start i h =
    ap sizes_sum (take-append-add first_four (replicate 12 8) i) ∙ total-append first_four (take i (replicate 12 8)) ∙ rw (total_eights 12 i (omega arith))

stage_size : (i : ℕ) → i < 12 → get_or code_table_sizes (4 + i) 0 ≡ 8
unfolding first_four
stage_size i h = get_or-append-add first_four (replicate 12 8) i 0 ∙ get_or-replicate 12 i 8 0 h

-- none of the tables has more than 512 entries
pub size_le : (i : ℕ) → i < 16 → get_or code_table_sizes i 0 ≤ 512
size_le zero h = omega arith
size_le (suc zero) h = omega arith
size_le (suc (suc zero)) h = omega arith
size_le (suc (suc (suc zero))) h = omega arith
size_le (suc (suc (suc (suc i)))) h =
    let e : get_or code_table_sizes (suc (suc (suc (suc i)))) 0 ≡ 8 = get_or-replicate 12 i 8 0 (omega arith) in
    omega (arith, e)

-- ---- a part of a part
drop_take : (a k : ℕ) (l : List ℕ) → drop a (take (a + k) l) ≡ take k (drop a l)
drop_take zero k l = rw zero-add
drop_take (suc a) k [] = rw (take-nil (suc a + k)) (sym (take-nil k))
drop_take (suc a) k (x ∷ l) =
    let e : suc a + k ≡ suc (a + k) = omega arith in
    rw e (drop_take a k l)

pub part-part : (n a m b : ℕ) (l : List ℕ) → a + n ≤ m → take n (drop a (take m (drop b l))) ≡ take n (drop (b + a) l)
part-part n a m b l h =
    let e : m ≡ a + (m - a) = omega arith in
    rw (e, drop_take a (m - a) (drop b l), take-take n (m - a) (drop a (drop b l)) (omega arith), drop-drop a b l)

-- ---- a book that passes
-- a table of n codes that can be written and read back
pub record GoodCodes (n : ℕ) (t : List ℕ) : Type 0 where
  pub size : length t ≡ 3 * n
  pub good : good_table t ≡ true
  pub count : length (codes_of t) ≡ n
  pub free : prefix_free (codes_of t) ≡ true

-- entries of a half's mean table
abbrev pub means : Svq1Half → ℕ
means Intra = 256
means Inter = 512

-- each of the tables by its name
pub record GoodBook (book : List ℕ) : Type 0 where
  pub size : length book ≡ book_bytes
  pub good : good_table book ≡ true
  pub mode : GoodCodes 4 (mode_table book)
  pub vector : GoodCodes 64 (vector_table book)
  pub mean : (h : Svq1Half) → GoodCodes (means h) (mean_table h book)
  pub stage : (h : Svq1Half) (d : ℕ) → d ≤ 5 → GoodCodes 8 (stage_table d (stage_family h book))

module _ (book : List ℕ) (len : length book ≡ book_bytes) (good : good_table book ≡ true) (each : each_prefix_free code_table_sizes book ≡ true) where
  -- table i, of n entries from entry `from` on
  table_at : (i from n : ℕ) → i < 16 → sizes_sum (take i code_table_sizes) ≡ from → get_or code_table_sizes i 0 ≡ n → from + n ≤ 932 → GoodCodes n (entries from n book)
  table_at i from n h p q fits =
      let size : length (entries from n book) ≡ 3 * n = length-take-le (3 * n) (drop (3 * from) book) (rw length-drop (omega arith)) in
      record {
        size = size;
        good = good_take (drop (3 * from) book) n (good_drop book from good);
        count = length_codes_of (entries from n book) ∙ rw size (omega arith);
        free = rw (← p, ← q) (each_at code_table_sizes book i each h);
      }

  mean_at_lem : (h : Svq1Half) → GoodCodes (means h) (mean_table h book)
  unfolding sizes_sum
  mean_at_lem Intra = table_at 2 68 256 (omega arith) refl refl (omega arith)
  mean_at_lem Inter = table_at 3 324 512 (omega arith) refl refl (omega arith)

  -- a family's first entry is `base`, and table 4 + i is level d's of it
  level_at : (base i d : ℕ) → i < 12 → 836 + 8 * i ≡ base + 8 * d → d ≤ 5 → base + 48 ≤ 932 → GoodCodes 8 (stage_table d (entries base 48 book))
  level_at base i d h p l fits =
      let e : stage_table d (entries base 48 book) ≡ entries (base + 8 * d) 8 book =
      part-part 24 (3 * (8 * d)) 144 (3 * base) book (omega arith) ∙ ap (λ (n : ℕ). take 24 (drop n book)) {x = 3 * base + 3 * (8 * d)} {y = 3 * (base + 8 * d)} (omega arith) in
      rw e (table_at (4 + i) (base + 8 * d) 8 (omega arith) (stage_start i h ∙ p) (stage_size i h) (omega arith))

  stage_at : (h : Svq1Half) (d : ℕ) → d ≤ 5 → GoodCodes 8 (stage_table d (stage_family h book))
  stage_at Intra d l = level_at 836 d d (omega arith) refl l (omega arith)
  stage_at Inter d l = level_at 884 (6 + d) d (omega arith) (omega arith) l (omega arith)

-- A BOOK THAT PASSES: the sixteen tables, each of its size, good and prefix-free
pub good_book : (book : List ℕ) → book_refusal book ≡ 0 → GoodBook book
unfolding book_refusal codes_refusal sizes_sum
good_book book e =
    let two = or_none (unless (eqb (length book) book_bytes) 5) (codes_refusal book) e in
    let one = or_none (unless (good_table book) 6) (unless (each_prefix_free code_table_sizes book) 7) two.1 in
    let len = eqb-true (length book) book_bytes (unless-none (eqb (length book) book_bytes) 5 (omega arith) two.0) in
    let good = unless-none (good_table book) 6 (omega arith) one.0 in
    let each = unless-none (each_prefix_free code_table_sizes book) 7 (omega arith) one.1 in
    record {
      size = len;
      good = good;
      mode = table_at book len good each 0 0 4 (omega arith) refl refl (omega arith);
      vector = table_at book len good each 1 4 64 (omega arith) refl refl (omega arith);
      mean = mean_at_lem book len good each;
      stage = stage_at book len good each;
    }

-- a book and a codebook that pass: the codebook has its size, and the book passes
pub data_passes : (book codebook : List ℕ) → data_refusal book codebook ≡ 0 → (length codebook ≡ codebook_bytes) × (book_refusal book ≡ 0)
unfolding data_refusal
data_passes book codebook e =
    let two = or_none (unless (eqb (length codebook) codebook_bytes) 5) (book_refusal book) e in
    (eqb-true (length codebook) codebook_bytes (unless-none (eqb (length codebook) codebook_bytes) 5 (omega arith) two.0), two.1)

-- ---- a half's codes
-- what a leaf's writer and reader ask of them
pub record GoodTables (T : Tables) : Type 0 where
  pub stage_free : (d : ℕ) → d ≤ 5 → prefix_free (T.stage d) ≡ true
  pub stage_count : (d : ℕ) → d ≤ 5 → length (T.stage d) ≡ 8
  pub stage_most : (d k : ℕ) → d ≤ 5 → length (code (T.stage d) k) ≤ 32
  pub mean_free : prefix_free T.mean ≡ true
  pub mean_count : length T.mean ≡ means T.half
  pub mean_most : (k : ℕ) → length (code T.mean k) ≤ 32

pub good_tables : (book : List ℕ) → book_refusal book ≡ 0 → (h : Svq1Half) → GoodTables (tables_of book h)
good_tables book e h =
    let g = good_book book e in
    record {
      stage_free = λ d l. (g.stage h d l).free;
      stage_count = λ d l. (g.stage h d l).count;
      stage_most = λ d k l. code_most (stage_table d (stage_family h book)) (g.stage h d l).good k;
      mean_free = (g.mean h).free;
      mean_count = (g.mean h).count;
      mean_most = code_most (mean_table h book) (g.mean h).good;
    }

-- what writing the code of entry k asks
pub good_entry_lem : (n : ℕ) (t : List ℕ) → GoodCodes n t → (k : ℕ) → k < n → GoodEntry t k
good_entry_lem n t g k h =
    let s = g.size in
    let there : k < length t / 3 = omega arith in
    record { there = there; long = (good_is t g.good).long k there }
