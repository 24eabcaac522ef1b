-- Laws that a text has one form: a number that is read is written as it stood, and a text is its pieces with the separators between them. Assumes nothing.
use Rattle.std.specs.Prelude.{ℕ, suc, ◌+◌, ◌-◌, ◌*◌, ◌/◌, ◌%◌, ◌^◌, ◌≤◌, ◌<◌, ◌≡◌, refl, Bool, true, false, not, ◌&&◌, List, [], ◌∷◌, ◌++◌, eqb, leb, ltb, length, Option, None, Some}
use Rattle.std.proofs.Common.{sym, ap, ◌∙◌, true≢false, mul-le-mul_right, mul_assoc, le_trans, arith, lit<, eqb-true, leb-true, lt-ltb, le-ltb, ltb-true, ltb-false}
use Rattle.std.proofs.Math.Nat.{pow-succ', pow-le-pow_right}
use Rattle.std.proofs.lemmas.Bool.{eqb-false, not-true}
use Rattle.bits.specs.Basics.{pick, every}
use Rattle.bits.specs.BasicsLaws.{both_true}
use Rattle.text.specs.Text.{comma, line_feed, is_digit, is_number, value_from, number_up_to, onto, pieces, all_ended, lines_of, fields_of, same, digits_before, decimal, joined}
use Rattle.text.specs.ReadingForms.{line_before}
use Rattle.text.specs.TextLaws.{none_some, some_piece, ended-step}

-- ---- a number
digit_range : (c : ℕ) → is_digit c ≡ true → (48 ≤ c) × (c ≤ 57)
digit_range c q = let two = both_true (leb 48 c) (leb c 57) q in (leb-true 48 c two.0, leb-true c 57 two.1)

every_first : (c : ℕ) (t : List ℕ) → every is_digit (c ∷ t) ≡ true → (is_digit c ≡ true) × (every is_digit t ≡ true)
unfolding every
every_first c t = go (is_digit c)
  where
    go : (b : Bool) → pick b (every is_digit t) false ≡ true → (b ≡ true) × (every is_digit t ≡ true)
    go true q = (refl, q)
    go false q = absurd (true≢false (sym q))

-- one digit more behind those of m
before_more : (f m c : ℕ) (t : List ℕ) → is_digit c ≡ true → 1 ≤ m → digits_before (suc f) (10 * m + (c - 48)) t ≡ digits_before f m (c ∷ t)
unfolding digits_before
before_more f m c t q h =
    let r = digit_range c q in
    let n : ℕ = 10 * m + (c - 48) in
    let tenth : n / 10 ≡ m = omega (arith, r.0, r.1) in
    let last : 48 + n % 10 ≡ c = omega (arith, r.0, r.1) in
    rw (le-ltb n 10 (omega arith), tenth, last)

-- the digits of what digits behind m stand for
before_value : (t : List ℕ) (f m : ℕ) → every is_digit t ≡ true → 1 ≤ m → digits_before (f + length t) (value_from m t) [] ≡ digits_before f m t
unfolding value_from
before_value [] f m q h = let z : f + 0 ≡ f = omega arith in rw z
before_value (c ∷ t) f m q h =
    let two = every_first c t q in
    let z : f + suc (length t) ≡ suc f + length t = omega arith in
    rw z (before_value t (suc f) (10 * m + (c - 48)) two.1 (omega arith) ∙ before_more f m c t two.0 h)

-- digits behind m make at least m with as many zeros
value_least : (m : ℕ) (t : List ℕ) → m * 10 ^ length t ≤ value_from m t
unfolding value_from
value_least m [] = omega arith
value_least m (c ∷ t) =
    let x : ℕ = 10 ^ length t in
    let e : m * 10 ^ suc (length t) ≡ m * 10 * x = ap (λ (n : ℕ). m * n) (pow-succ' 10 (length t)) ∙ sym (mul_assoc m 10 x) in
    let k : m * 10 ≤ 10 * m + (c - 48) = omega arith in
    rw e (le_trans (mul-le-mul_right x k) (value_least (10 * m + (c - 48)) t))

-- few digits stand for a number below 10^20
few : (m : ℕ) (t : List ℕ) → 1 ≤ m → value_from m t < 10 ^ 20 → length t < 20
few m t h k = go (ltb (length t) 20) refl
  where
    go : (b : Bool) → ltb (length t) 20 ≡ b → length t < 20
    go true q = ltb-true (length t) 20 q
    go false q =
        let zeros : 10 ^ 20 ≤ 10 ^ length t = pow-le-pow_right (lit< tt) (ltb-false (length t) 20 q) in
        let one : 1 * 10 ^ length t ≤ m * 10 ^ length t = mul-le-mul_right (10 ^ length t) h in
        absurd (omega (arith, zeros, one, value_least m t))

one_before : (f m c : ℕ) (t : List ℕ) → 48 + m ≡ c → m < 10 → digits_before (suc f) m t ≡ c ∷ t
unfolding digits_before
one_before f m c t e h = rw (lt-ltb m 10 h, e)

-- digits with no leading zero are the decimal form of what they stand for
digits_decimal : (c : ℕ) (t : List ℕ) → is_digit c ≡ true → (c ≡ 48 → ⊥) → every is_digit t ≡ true → value_from 0 (c ∷ t) < 10 ^ 20 → c ∷ t ≡ decimal (value_from 0 (c ∷ t))
unfolding decimal value_from
digits_decimal c t q n d k =
    let r = digit_range c q in
    let z : 10 * 0 + (c - 48) ≡ c - 48 = omega arith in
    let m : ℕ = c - 48 in
    let v : value_from (10 * 0 + (c - 48)) t ≡ value_from m t = ap (λ (x : ℕ). value_from x t) z in
    let small : value_from m t < 10 ^ 20 = rw (← v) k in
    let short : length t < 20 = few m t (omega (arith, r.0, n)) small in
    let fuel : 20 ≡ suc (19 - length t) + length t = omega arith in
    let one : digits_before (suc (19 - length t)) m t ≡ c ∷ t = one_before (19 - length t) m c t (omega (arith, r.0)) (omega (arith, r.1)) in
    sym (ap (λ (x : ℕ). digits_before 20 x []) v ∙ ap (λ (x : ℕ). digits_before x (value_from m t) []) fuel ∙ before_value t (suc (19 - length t)) m d (omega (arith, r.0, n)) ∙ one)

is_decimal : (t : List ℕ) → is_number t ≡ true → value_from 0 t < 10 ^ 20 → t ≡ decimal (value_from 0 t)
unfolding is_number value_from decimal
is_decimal [] q k = absurd (true≢false (sym q))
is_decimal (c ∷ []) q k =
    let r = digit_range c q in
    sym (one_before 19 (10 * 0 + (c - 48)) c [] (omega (arith, r.0)) (omega (arith, r.1)))
is_decimal (c ∷ d ∷ t) q k =
    let two = both_true (is_digit c && not (eqb c 48)) (every is_digit (d ∷ t)) q in
    let one = both_true (is_digit c) (not (eqb c 48)) two.0 in
    digits_decimal c (d ∷ t) one.0 (eqb-false c 48 (not-true (eqb c 48) one.1)) two.1 k

-- a number that is read is its decimal form
pub number_decimal : (most n : ℕ) (t : List ℕ) → number_up_to most t ≡ Some n → n < 10 ^ 20 → t ≡ decimal n
unfolding number_up_to
number_decimal most n t q k = go (is_number t) (leb (value_from 0 t) most) refl q
  where
    go : (a b : Bool) → is_number t ≡ a → pick (a && b) (Some (value_from 0 t)) None ≡ Some n → t ≡ decimal n
    go true true e h = let v : value_from 0 t ≡ n = cc in is_decimal t e (rw v k) ∙ ap decimal v
    go true false e h = none_some h
    go false b e h = none_some h

-- ---- pieces
-- pieces with a separator between them
unfoldable pub rejoined : ℕ → List (List ℕ) → List ℕ
rejoined s [] = []
rejoined s (f ∷ []) = f
rejoined s (f ∷ (g ∷ gs)) = f ++ (s ∷ rejoined s (g ∷ gs))

-- a text is its pieces with the separator between them
pub rejoin_pieces : (s : ℕ) (t : List ℕ) → rejoined s (pieces s t) ≡ t
unfolding pieces rejoined
rejoin_pieces s [] = refl
rejoin_pieces s (c ∷ t) = go (eqb c s) refl (pieces s t) (some_piece s t) (rejoin_pieces s t)
  where
    go : (b : Bool) → eqb c s ≡ b → (ps : List (List ℕ)) → 0 < length ps → rejoined s ps ≡ t → rejoined s (pick b ([] ∷ ps) (onto c ps)) ≡ c ∷ t
    go b q [] h e = absurd (omega arith)
    go true q (p ∷ ps) h e = rw (e, eqb-true c s q)
    go false q (p ∷ []) h e = ap (λ (l : List ℕ). c ∷ l) e
    go false q (p ∷ (r ∷ ps)) h e = ap (λ (l : List ℕ). c ∷ l) e

joined_is : (fs : List (List ℕ)) → joined fs ≡ rejoined comma fs
unfolding joined rejoined
joined_is [] = refl
joined_is (f ∷ []) = refl
joined_is (f ∷ (g ∷ gs)) = ap (λ (l : List ℕ). f ++ (comma ∷ l)) (joined_is (g ∷ gs))

-- a line is its fields joined
pub joined_fields : (t : List ℕ) → joined (fields_of t) ≡ t
unfolding fields_of
joined_fields t = joined_is (pieces comma t) ∙ rejoin_pieces comma t

-- lines, each with its line feed
unfoldable pub ended : List (List ℕ) → List ℕ
ended [] = []
ended (l ∷ ls) = l ++ (line_feed ∷ ended ls)

ended-rejoined : (ps ts : List (List ℕ)) → all_ended ps ≡ Some ts → rejoined line_feed ps ≡ ended ts
unfolding all_ended rejoined ended
ended-rejoined [] ts q = none_some q
ended-rejoined ([] ∷ []) ts q = let e : [] ≡ ts = cc in rw (← e)
ended-rejoined ((c ∷ t) ∷ []) ts q = none_some q
ended-rejoined (l ∷ (m ∷ ms)) ts q = go (all_ended (m ∷ ms)) (sym (ended-step l (m ∷ ms) (omega arith)) ∙ q) (ended-rejoined (m ∷ ms))
  where
    go : (o : Option (List (List ℕ))) → line_before l o ≡ Some ts → ((us : List (List ℕ)) → o ≡ Some us → rejoined line_feed (m ∷ ms) ≡ ended us)
        → l ++ (line_feed ∷ rejoined line_feed (m ∷ ms)) ≡ ended ts
    go None h next = none_some h
    go (Some us) h next = let e : l ∷ us ≡ ts = cc in rw (← e, next us refl)

-- a text is its lines, each with its line feed
pub lines_ended : (t : List ℕ) (ts : List (List ℕ)) → lines_of t ≡ Some ts → t ≡ ended ts
unfolding lines_of
lines_ended t ts q = sym (rejoin_pieces line_feed t) ∙ ended-rejoined (pieces line_feed t) ts q

-- texts that compare as the same are
pub same_true : (t u : List ℕ) → same t u ≡ true → t ≡ u
unfolding same
same_true [] [] q = refl
same_true [] (d ∷ u) q = absurd (true≢false (sym q))
same_true (c ∷ t) [] q = absurd (true≢false (sym q))
same_true (c ∷ t) (d ∷ u) q =
    let two = both_true (eqb c d) (same t u) q in
    rw (eqb-true c d two.0, same_true t u two.1)
