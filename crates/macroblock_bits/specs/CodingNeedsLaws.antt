-- Laws of the bits of modes and vectors as the code counts and puts them.
-- Assumes nothing.
use Rattle.std.specs.Prelude.{◌≡◌, refl, List, [], ◌++◌, ℕ, suc, ◌+◌, ◌-◌, ◌*◌, ◌/◌, ◌≤◌, ◌<◌, ℤ, pos, negsuc, ◌+ℤ◌, length, get_or}
use Rattle.std.proofs.Common.{sym, ◌∙◌, append_assoc, arith, le-ltb, length-append}
use Rattle.code_tables.specs.Codes.{code, codes_of, code_len}
use Rattle.code_tables.specs.CodesLaws.{code-length}
use Rattle.bits.specs.BitNeeds.{Fits, Wrote}
use Rattle.code_tables.specs.CodeNeeds.{GoodEntry}
use Rattle.bits.specs.BitNeedsLaws.{wrote_more}
use Rattle.book.specs.BookLaws.{GoodCodes, good_entry_lem}
use Rattle.vectors.specs.declared.svq1_motion_predictor.Svq1Mv.{Svq1Mv}
use Rattle.vectors.specs.Vectors.{zero_mv, difference_mv, place_of}
use Rattle.vectors.specs.VectorsLaws.{InRange, range_pos, range_neg, Codable, Inside, difference_inside}
use Rattle.mv_cache.specs.Neighbours.{Near, for_one, for_first, for_second}
use Rattle.macroblock.specs.Macroblock.{Given, Motion, still, four, difference_bits, vector_bits, motion_bits}
use Rattle.macroblock.specs.MacroblockLaws.{Codables}
use Rattle.macroblock.specs.declared.svq1_enc_inter.MbMotion.{MbMotion}
use Rattle.macroblock.specs.declared.svq1_enc_inter.MbMotion.TheVariants.{One}
use Rattle.macroblock.specs.MotionForms.{motion_of, Differs}
use Rattle.macroblock_bits.specs.CodingNeeds.{Counted, four_differences}

-- ---- one code: entry j of the lent table u is entry k of the table t
module _ (n : ℕ) (t u : List ℕ) (g : GoodCodes n t) (e : u ≡ t) (k j : ℕ) (q : j ≡ k) (h : k < n) where
  pub entry_there : j < length u / 3
  entry_there = rw (e, q) (good_entry_lem n t g k h).there

  pub entry_counted : (r : ℕ) → r ≡ code_len u j → Counted (code (codes_of t) k) 32 r
  entry_counted r s =
      let w = good_entry_lem n t g k h in
      let l : r ≡ code_len t k = s ∙ rw (e, q) in
      record { is = l ∙ sym (code-length t k w.there); few = rw l w.long }

  pub entry-fits : (bytes at : ℕ) → Fits bytes at (length (code (codes_of t) k)) → GoodEntry u j × Fits bytes at (code_len u j)
  entry-fits bytes at f =
      let w = good_entry_lem n t g k h in
      (rw (e, q) w, rw (e, q) (rw (code-length t k w.there) at f))

  pub entry-wrote : {out left : List ℕ} {at next : ℕ} → Wrote out at (code (codes_of u) j) next left → Wrote out at (code (codes_of t) k) next left
  entry-wrote w = rw (e, q) at w

-- ---- a difference's component
-- its place, by cases
abbrev pub placed_at : ℤ → ℕ
placed_at (pos n) = n + 32
placed_at (negsuc n) = 31 - n

pub record CodePlaced (d : ℤ) : Type 0 where
  pub sum : d +ℤ pos 32 ≡ pos (placed_at d)
  pub is : placed_at d ≡ place_of d
  pub small : placed_at d < 64

pub placed : (d : ℤ) → InRange d → CodePlaced d
placed (pos n) h = record { sum = refl; is = refl; small = omega (arith, range_pos n h) }
placed (negsuc n) h =
    let l = range_neg n h in
    let e : 32 - suc n ≡ 31 - n = omega arith in
    record { sum = simp (le-ltb 32 (suc n) (omega arith), e); is = simp (le-ltb 32 (suc n) (omega arith), e); small = omega arith }

-- ---- one run behind another
pub counted_both : (xs ys : List ℕ) (a b m n : ℕ) → Counted xs m a → Counted ys n b → Counted (xs ++ ys) (m + n) (a + b)
counted_both xs ys a b m n f g = record { is = rw length-append (omega (arith, f.is, g.is)); few = omega (arith, f.few, g.few) }

pub counted_as : (xs ys : List ℕ) (m r : ℕ) → ys ≡ xs → Counted xs m r → Counted ys m r
counted_as xs ys m r e c = rw e c

-- room for two runs is room for the first, and behind it for the second
pub first_fits : (xs ys : List ℕ) {bytes at : ℕ} → Fits bytes at (length (xs ++ ys)) → Fits bytes at (length xs)
first_fits xs ys f = record { bytes_fit = f.bytes_fit; bits_fit = omega (arith, f.bits_fit, length-append xs ys) }

pub second_fits : (xs ys : List ℕ) {out mid : List ℕ} {at next bytes : ℕ} → Fits (length out) at (length (xs ++ ys)) → Wrote out at xs next mid → bytes ≡ length out
    → Fits bytes next (length ys)
second_fits xs ys f w e = record { bytes_fit = omega (arith, f.bytes_fit); bits_fit = omega (arith, f.bits_fit, length-append xs ys, w.behind) }

-- ---- motions, by the differences that the code holds
-- one vector, by the difference that it carries
module _ (g : Given) (n : Near) (motion : MbMotion) (vs : List Svq1Mv) (v d : Svq1Mv) (e : motion ≡ One v d) (h : Differs n motion) where
  carried : d ≡ difference_mv (for_one n) v
  carried = rw e at h

  pub one_inside : Codables n (motion_of motion vs) → Inside d
  one_inside c = let k : Codable (for_one n) v = rw e at c in rw carried (difference_inside (for_one n) v k)

  pub one_bits : motion_bits g n (motion_of motion vs) ≡ difference_bits g d
  unfolding motion_bits vector_bits
  one_bits = rw (e, carried)

-- four, by a list of their differences
module _ (g : Given) (n : Near) (a b c d : Svq1Mv) (ds : List Svq1Mv) (e : ds ≡ four_differences n a b c d) where
  abbrev diff : ℕ → List ℕ
  diff i = difference_bits g (get_or ds i zero_mv)

  by_pairs : motion_bits g n (four a b c d) ≡ (diff 0 ++ diff 1) ++ (diff 2 ++ diff 3)
  unfolding motion_bits vector_bits
  by_pairs = rw e (sym (append_assoc (vector_bits g (for_first n) a) (vector_bits g (for_second n a) b) _))

  pub four_inside : Codables n (four a b c d) → Inside (get_or ds 0 zero_mv) × Inside (get_or ds 1 zero_mv) × Inside (get_or ds 2 zero_mv) × Inside (get_or ds 3 zero_mv)
  four_inside h = rw e (difference_inside _ a h.0, difference_inside _ b h.1, difference_inside _ c h.2, difference_inside _ d h.3)

  pub four_counted : (x y : ℕ) → Counted (diff 0 ++ diff 1) 128 x → Counted (diff 2 ++ diff 3) 128 y → Counted (motion_bits g n (four a b c d)) 256 (x + y)
  four_counted x y f h = rw by_pairs (counted_both _ _ x y 128 128 f h)

  pub four_first : {bytes at : ℕ} → Fits bytes at (length (motion_bits g n (four a b c d))) → Fits bytes at (length (diff 0 ++ diff 1))
  four_first f = first_fits (diff 0 ++ diff 1) (diff 2 ++ diff 3) (rw by_pairs at f)

  pub four_second : {out mid : List ℕ} {at next bytes : ℕ} → Fits (length out) at (length (motion_bits g n (four a b c d))) → Wrote out at (diff 0 ++ diff 1) next mid
      → bytes ≡ length out → Fits bytes next (length (diff 2 ++ diff 3))
  four_second f h s = second_fits (diff 0 ++ diff 1) (diff 2 ++ diff 3) (rw by_pairs at f) h s

  pub four_wrote : {out mid left : List ℕ} {at next end : ℕ} → at ≤ 8 * length out → Wrote out at (diff 0 ++ diff 1) next mid → Wrote mid next (diff 2 ++ diff 3) end left
      → Wrote out at (motion_bits g n (four a b c d)) end left
  four_wrote h x y = rw by_pairs (wrote_more h x y)

-- the other cases
module _ (g : Given) (n : Near) (m : Motion) where
  pub still_bits : m ≡ still → motion_bits g n m ≡ []
  unfolding motion_bits
  still_bits e = rw e

  pub four_codable : (a b c d : Svq1Mv) → m ≡ four a b c d → Codables n m → Codables n (four a b c d)
  four_codable a b c d e h = rw e at h

pub counted_none : (xs : List ℕ) → xs ≡ [] → Counted xs 256 0
counted_none xs e = record { is = rw e; few = omega arith }

pub counted_less : (xs ys : List ℕ) (l m r : ℕ) → ys ≡ xs → l ≤ m → Counted xs l r → Counted ys m r
counted_less xs ys l m r e h c = record { is = rw e c.is; few = omega (arith, c.few) }

pub fits_as : (xs ys : List ℕ) → ys ≡ xs → {bytes at : ℕ} → Fits bytes at (length ys) → Fits bytes at (length xs)
fits_as xs ys e f = rw e at f
