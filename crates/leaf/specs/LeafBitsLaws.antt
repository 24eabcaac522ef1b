-- Laws of a leaf's bits: with anything behind them they read as the leaf, and there are at most 88.
-- Assumes nothing.
use Rattle.std.specs.Prelude.{◌≡◌, refl, false, ◌&&◌, List, [], ◌∷◌, ◌++◌, ℕ, suc, ◌+◌, ◌*◌, ◌≤◌, ◌<◌, ltb, ℤ, length, get_or}
use Rattle.std.proofs.Common.{append_assoc, arith, lt-ltb, le-ltb, length-append}
use Rattle.std.proofs.Math.Decide.{dec_lt}
use Rattle.bits.specs.Bits.{msb}
use Rattle.bits.specs.BitsLaws.{length_msb}
use Rattle.code_tables.specs.Codes.{code, got, bad}
use Rattle.code_tables.specs.CodeReadLaws.{take_code_lem, take_bits_lem}
use Rattle.book.specs.Book.{Tables}
use Rattle.book.specs.BookLaws.{means, GoodTables}
use Rattle.book.specs.declared.svq1_vlc.Svq1Half.TheVariants.{Intra, Inter}
use Rattle.codebook.specs.Mean.{mean_position, mean_at}
use Rattle.leaf.specs.Leaf.{Leaf, skip, coded}
use Rattle.leaf.specs.LeafBits.{stage_bits, leaf_bits, read_stages, read_rest, read_leaf}

-- ---- a leaf that may stand at level d
pub record Coded (T : Tables) (d : ℕ) (m : ℤ) (js : List ℕ) : Type 0 where
  pub place : mean_position T.half m < means T.half
  pub back : mean_at T.half (mean_position T.half m) ≡ m
  pub few : length js ≤ 6
  pub bare : 4 ≤ d → length js ≡ 0
  pub small : (k : ℕ) → get_or js k 0 < 16

abbrev pub AllowedLeaf : Tables → ℕ → Leaf → Type 0
AllowedLeaf T d skip = T.half ≡ Inter
AllowedLeaf T d (coded m js) = Coded T d m js

-- ---- reading what was written
read_stages_lem : (js r : List ℕ) → ((k : ℕ) → get_or js k 0 < 16) → read_stages (length js) (stage_bits js ++ r) ≡ got js r
unfolding read_stages stage_bits
read_stages_lem [] r h = refl
read_stages_lem (j ∷ js) r h =
    rw (append_assoc (msb 4 j) (stage_bits js) r, take_bits_lem 4 j (stage_bits js ++ r) (h 0), read_stages_lem js r (λ k. h (suc k)))

bare_passes : (d n : ℕ) → (4 ≤ d → n ≡ 0) → ltb 3 d && ltb 0 n ≡ false
bare_passes d n h = elim (dec_lt 3 d) [ yes a ↦ rw (lt-ltb 3 d a, h a) | no a ↦ rw (le-ltb 3 d (omega arith)) ]

-- a leaf's bits, with anything behind them, read as the leaf
pub read_leaf_lem : (T : Tables) → GoodTables T → (d : ℕ) (l : Leaf) (r : List ℕ) → d ≤ 5 → AllowedLeaf T d l → read_leaf T d (leaf_bits T d l ++ r) ≡ got l r
unfolding read_leaf leaf_bits read_rest
read_leaf_lem T g d skip r h a = rw (take_code_lem (T.stage d) 0 r (g.stage_free d h) (omega (arith, g.stage_count d h)), a)
read_leaf_lem T g d (coded m js) r h a =
    let n = length js in
    let k = mean_position T.half m in
    let c = code T.mean k in
    rw (
      append_assoc (code (T.stage d) (suc n)) (c ++ stage_bits js) r,
      take_code_lem (T.stage d) (suc n) ((c ++ stage_bits js) ++ r) (g.stage_free d h) (omega (arith, g.stage_count d h, a.few)),
      bare_passes d n a.bare,
      append_assoc c (stage_bits js) r,
      take_code_lem T.mean k (stage_bits js ++ r) g.mean_free (omega (arith, g.mean_count, a.place)),
      read_stages_lem js r a.small,
      a.back,
    )

-- ---- lengths
pub length_stages : (js : List ℕ) → length (stage_bits js) ≡ 4 * length js
unfolding stage_bits
length_stages [] = refl
length_stages (j ∷ js) = simp (length-append, length_msb) (omega (arith, length_stages js))

-- a leaf's bits, counted
pub length_leaf : (T : Tables) (d : ℕ) (m : ℤ) (js : List ℕ)
    → length (leaf_bits T d (coded m js)) ≡ length (code (T.stage d) (suc (length js))) + length (code T.mean (mean_position T.half m)) + 4 * length js
unfolding leaf_bits
length_leaf T d m js = simp (length-append, length_stages) (omega arith)

pub leaf_most : (T : Tables) → GoodTables T → (d : ℕ) (l : Leaf) → d ≤ 5 → AllowedLeaf T d l → length (leaf_bits T d l) ≤ 88
unfolding leaf_bits
leaf_most T g d skip h a = omega (arith, g.stage_most d 0 h)
leaf_most T g d (coded m js) h a =
    omega (arith, length_leaf T d m js, g.stage_most d (suc (length js)) h, g.mean_most (mean_position T.half m), a.few)

-- 11 is met with the stage code, whatever stands behind it
pub skip_refused : (T : Tables) → GoodTables T → (d : ℕ) (r : List ℕ) → d ≤ 5 → T.half ≡ Intra → read_leaf T d (code (T.stage d) 0 ++ r) ≡ bad 11
unfolding read_leaf read_rest
skip_refused T g d r h a = rw (take_code_lem (T.stage d) 0 r (g.stage_free d h) (omega (arith, g.stage_count d h)), a)

pub stages_refused : (T : Tables) → GoodTables T → (d n : ℕ) (r : List ℕ) → d ≤ 5 → 4 ≤ d → 0 < n → n ≤ 6
    → read_leaf T d (code (T.stage d) (suc n) ++ r) ≡ bad 11
unfolding read_leaf read_rest
stages_refused T g d n r h l s f =
    rw (take_code_lem (T.stage d) (suc n) r (g.stage_free d h) (omega (arith, g.stage_count d h)), lt-ltb 3 d l, lt-ltb 0 n s)
