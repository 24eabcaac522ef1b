-- Laws of codes as ranges: ranges meet exactly where the codes clash.
-- Assumes nothing.
use Rattle.std.specs.Prelude.{ℕ, zero, suc, ◌+◌, ◌-◌, ◌*◌, ◌/◌, ◌^◌, ◌≤◌, ◌<◌, ◌≡◌, refl, Bool, true, false, not, ◌&&◌, List, [], ◌∷◌, eqb, leb, length, get_or, drop}
use Rattle.std.proofs.Common.{sym, ap, ◌∙◌, subst, le-div_iff_mul-le, div-lt_iff_lt-mul, add-mul, one-mul, zero-mul, add-zero, arith, add-one, drop_of_length-le, drop-cons, pow_pos, pow-add, shr-shr, le-leb, eq-eqb, ne_eqb, leb-true, ltb-true}
use Rattle.std.proofs.Math.Decide.{dec_lt}
use Rattle.std.proofs.Math.Arith.{digits_lt}
use Rattle.std.proofs.lemmas.Nat.{shl-shr}
use Rattle.std.proofs.Math.Pow.{high, ones_lt}
use Rattle.std.proofs.lemmas.Bool.{lt-leb}
use Rattle.bits.specs.Bits.{msb}
use Rattle.bits.specs.BitsLaws.{length_msb}
use Rattle.code_tables.specs.Codes.{clash, apart, prefix_free, codes_of, code_val, code_len, good_entry, good_table}
use Rattle.code_tables.specs.CodesLaws.{begins-msb, clash_short, clash_swap}
use Rattle.bits.specs.Basics.{pick}
use Rattle.bits.specs.BasicsLaws.{both_true}
use Rattle.code_tables.specs.RangeForms.{range_end, range_ends, meet, meetings, ranges_apart}

leb_as : (a b c d : ℕ) → (a ≤ b → c ≤ d) → (b < a → d < c) → leb a b ≡ leb c d
leb_as a b c d f g =
    elim (dec_lt b a) [
      | yes l ↦ rw (lt-leb a b l, lt-leb c d (g l))
      | no l ↦
          let h : a ≤ b = omega arith in
          rw (le-leb a b h, le-leb c d (f h))
    ]

-- ---- the ranges of x and of y, which has k bits more, with m bits behind it
module _ (x y m k : ℕ) where
  -- the first bits of y
  abbrev q : ℕ
  q = y / 2 ^ k

  greatest : (y * 2 ^ m + (2 ^ m - 1)) / 2 ^ (m + k) ≡ q
  greatest = sym (shr-shr (y * 2 ^ m + (2 ^ m - 1)) m k) ∙ ap (λ (n : ℕ). n / 2 ^ k) (high y m (ones_lt m))

  least : y * 2 ^ m / 2 ^ (m + k) ≡ q
  least = sym (shr-shr (y * 2 ^ m) m k) ∙ ap (λ (n : ℕ). n / 2 ^ k) (shl-shr y m)

  up_to : leb (x * 2 ^ (m + k)) (y * 2 ^ m + (2 ^ m - 1)) ≡ leb x q
  up_to =
      leb_as (x * 2 ^ (m + k)) (y * 2 ^ m + (2 ^ m - 1)) x q
      (λ h. rw (← greatest) ((le-div_iff_mul-le (pow_pos (m + k))).1 h))
      (λ h. rw (← greatest) ((div-lt_iff_lt-mul (pow_pos (m + k))).1 h))

  from : leb (y * 2 ^ m) (x * 2 ^ (m + k) + (2 ^ (m + k) - 1)) ≡ leb q x
  from =
      let p = pow_pos (m + k) in
      let e : (x + 1) * 2 ^ (m + k) ≡ x * 2 ^ (m + k) + 2 ^ (m + k) = add-mul x 1 (2 ^ (m + k)) ∙ ap (λ (n : ℕ). x * 2 ^ (m + k) + n) (one-mul (2 ^ (m + k))) in
      leb_as (y * 2 ^ m) (x * 2 ^ (m + k) + (2 ^ (m + k) - 1)) q x
      (λ h. let l : q < x + 1 = rw (← least) ((div-lt_iff_lt-mul p).1 (omega arith)) in omega arith)
      (λ h. let l : x + 1 ≤ q = rw (← least) ((le-div_iff_mul-le p).1 (omega arith)) in omega arith)

  equal : (leb x q && leb q x) ≡ eqb q x
  equal =
      elim (dec_lt q x) [
        | yes l ↦ rw (lt-leb x q l, ne_eqb q x (λ e. omega arith))
        | no l ↦
            elim (dec_lt x q) [
              | yes r ↦ rw (le-leb x q (omega arith), lt-leb q x r, ne_eqb q x (λ e. omega arith))
              | no r ↦ rw (le-leb x q (omega arith), le-leb q x (omega arith), eq-eqb q x (omega arith))
            ]
      ]

and_swap : (s t : Bool) → (s && t) ≡ (t && s)
and_swap true true = refl
and_swap true false = refl
and_swap false true = refl
and_swap false false = refl

module _ (a b x y : ℕ) where
  longer : a ≤ b → b ≤ 32 → x < 2 ^ a → y < 2 ^ b
      → meet (range_end 0 x a) (range_end 1 x a) (range_end 0 y b) (range_end 1 y b) ≡ clash (msb a x) (msb b y)
  longer l h hx hy =
      let m : ℕ = 32 - b in
      let k : ℕ = b - a in
      let e : 32 - a ≡ m + k = omega arith in
      let same : clash (msb a x) (msb b y) ≡ eqb (y / 2 ^ k) x = clash_short (msb a x) (msb b y) (simp length_msb l) ∙ begins-msb a b x y l hx hy in
      rw (e, zero-mul (2 ^ (m + k) - 1), zero-mul (2 ^ m - 1), one-mul (2 ^ (m + k) - 1), one-mul (2 ^ m - 1), add-zero (x * 2 ^ (m + k)), add-zero (y * 2 ^ m), same, up_to x y m k, from x y m k)
      (equal x y m k)

-- ranges meet exactly where the codes clash
pub meet-clash : (a b x y : ℕ) → a ≤ 32 → b ≤ 32 → x < 2 ^ a → y < 2 ^ b
    → meet (range_end 0 x a) (range_end 1 x a) (range_end 0 y b) (range_end 1 y b) ≡ clash (msb a x) (msb b y)
meet-clash a b x y ha hb hx hy =
    elim (dec_lt b a) [
      | yes l ↦
          and_swap (leb (range_end 0 x a) (range_end 1 y b)) (leb (range_end 0 y b) (range_end 1 x a))
          ∙ longer b a y x (omega arith) ha hy hx ∙ clash_swap (msb b y) (msb a x)
      | no l ↦ longer a b x y (omega arith) hb hx hy
    ]

-- ---- tables
good_first : (h l n : ℕ) (t : List ℕ) → good_table (h ∷ l ∷ n ∷ t) ≡ true → (n ≤ 32) × (h * 256 + l < 2 ^ n) × (good_table t ≡ true)
unfolding good_table
good_first h l n t g =
    let b = both_true (good_entry (h * 256 + l) n) (good_table t) g in
    let e = both_true (leb 1 n && leb n 32) _ b.0 in
    (leb-true n 32 (both_true (leb 1 n) (leb n 32) e.0).1, ltb-true (h * 256 + l) (2 ^ n) e.1, b.1)

count_none : (s : Bool) (n : ℕ) → eqb (pick s 1 0 + n) 0 ≡ (not s && eqb n 0)
count_none true n = ne_eqb (1 + n) 0 (λ e. omega arith)
count_none false n = ap (λ (k : ℕ). eqb k 0) (let e : 0 + n ≡ n = omega arith in e)

-- a code that meets none of a table's ranges is apart from its codes
met_apart : (a x : ℕ) (t : List ℕ) → a ≤ 32 → x < 2 ^ a → good_table t ≡ true
    → eqb (meetings (range_end 0 x a) (range_end 1 x a) (range_ends 0 t) (range_ends 1 t)) 0 ≡ apart (msb a x) (codes_of t)
unfolding meetings range_ends codes_of apart
met_apart a x [] ha hx g = refl
met_apart a x (h ∷ []) ha hx g = refl
met_apart a x (h ∷ l ∷ []) ha hx g = refl
met_apart a x (h ∷ l ∷ n ∷ t) ha hx g =
    let f = good_first h l n t g in
    count_none (meet (range_end 0 x a) (range_end 1 x a) (range_end 0 (h * 256 + l) n) (range_end 1 (h * 256 + l) n)) _
    ∙ rw (meet-clash a n x (h * 256 + l) ha f.0 hx f.1, met_apart a x t ha hx f.2)

-- and so for all
pub ranges_free : (t : List ℕ) → good_table t ≡ true → ranges_apart (range_ends 0 t) (range_ends 1 t) ≡ prefix_free (codes_of t)
unfolding ranges_apart range_ends codes_of prefix_free
ranges_free [] g = refl
ranges_free (h ∷ []) g = refl
ranges_free (h ∷ l ∷ []) g = refl
ranges_free (h ∷ l ∷ n ∷ t) g =
    let f = good_first h l n t g in
    rw (met_apart n (h * 256 + l) t f.0 f.1 f.2, ranges_free t f.2)

-- ---- an entry's range, and the loops' steps
pub length_ends : (e : ℕ) (t : List ℕ) → length (range_ends e t) ≡ length t / 3
unfolding range_ends
length_ends e [] = refl
length_ends e (h ∷ []) = refl
length_ends e (h ∷ l ∷ []) = refl
length_ends e (h ∷ l ∷ n ∷ t) = omega (arith, length_ends e t)

pub end_at : (e : ℕ) (t : List ℕ) (k : ℕ) → k < length t / 3 → get_or (range_ends e t) k 0 ≡ range_end e (code_val t k) (code_len t k)
unfolding range_ends
end_at e [] k lt = absurd (omega arith)
end_at e (h ∷ []) k lt = absurd (omega arith)
end_at e (h ∷ l ∷ []) k lt = absurd (omega arith)
end_at e (h ∷ l ∷ n ∷ t) zero lt = refl
end_at e (h ∷ l ∷ n ∷ t) (suc k) lt =
    let e0 : 3 * suc k ≡ suc (suc (suc (3 * k))) = omega arith in
    let e1 : 3 * suc k + 1 ≡ suc (suc (suc (3 * k + 1))) = omega arith in
    let e2 : 3 * suc k + 2 ≡ suc (suc (suc (3 * k + 2))) = omega arith in
    rw (e2, e1, e0) (end_at e t k (omega arith))

-- a range's end is a number of 32 bits
pub end_small : (e v n : ℕ) → e ≤ 1 → n ≤ 32 → v < 2 ^ n → range_end e v n < 2 ^ 32
end_small e v n he hn hv =
    let m : ℕ = 32 - n in
    let w : n + m ≡ 32 = omega arith in
    let whole : 2 ^ n * 2 ^ m ≡ 2 ^ 32 = sym (pow-add 2 n m) ∙ ap (λ (k : ℕ). 2 ^ k) w in
    subst (λ (k : ℕ). range_end e v n < k) whole (digits_lt hv (rest e he m))
  where
    rest : (e : ℕ) → e ≤ 1 → (m : ℕ) → e * (2 ^ m - 1) < 2 ^ m
    rest zero h m = rw (zero-mul (2 ^ m - 1)) (pow_pos m)
    rest (suc zero) h m = rw (one-mul (2 ^ m - 1)) (ones_lt m)
    rest (suc (suc e)) h m = absurd (omega arith)

pub meetings-step : (low high : ℕ) (ls hs : List ℕ) (k : ℕ) → k < length ls → length ls ≡ length hs
    → meetings low high (drop k ls) (drop k hs) ≡ pick (meet low high (get_or ls k 0) (get_or hs k 0)) 1 0 + meetings low high (drop (k + 1) ls) (drop (k + 1) hs)
unfolding meetings
meetings-step low high ls hs k l e = rw (add-one, drop-cons ls k 0 l, drop-cons hs k 0 (omega arith))

pub meetings_end : (low high : ℕ) (ls hs : List ℕ) (k : ℕ) → length ls ≤ k → meetings low high (drop k ls) (drop k hs) ≡ 0
unfolding meetings
meetings_end low high ls hs k h = rw (drop_of_length-le ls h)

pub apart_ranges_step : (ls hs : List ℕ) (i : ℕ) → i < length ls → length ls ≡ length hs
    → ranges_apart (drop i ls) (drop i hs)
    ≡ (eqb (meetings (get_or ls i 0) (get_or hs i 0) (drop (i + 1) ls) (drop (i + 1) hs)) 0 && ranges_apart (drop (i + 1) ls) (drop (i + 1) hs))
unfolding ranges_apart
apart_ranges_step ls hs i l e = rw (add-one, drop-cons ls i 0 l, drop-cons hs i 0 (omega arith))

pub apart_ranges_end : (ls hs : List ℕ) (i : ℕ) → length ls ≤ i → ranges_apart (drop i ls) (drop i hs) ≡ true
unfolding ranges_apart
apart_ranges_end ls hs i h = rw (drop_of_length-le ls h)
