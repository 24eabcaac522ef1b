-- Laws of written text: a decimal number, a line and its fields are read back. Assumes nothing.
use Rattle.std.specs.Prelude.{ℕ, zero, suc, ◌+◌, ◌-◌, ◌*◌, ◌/◌, ◌%◌, ◌^◌, ◌≤◌, ◌<◌, ◌≡◌, refl, Bool, true, false, not, List, [], ◌∷◌, ◌++◌, ◌&&◌, eqb, leb, ltb, length, get_or, None, Some}
use Rattle.std.proofs.Common.{sym, ap, ◌∙◌, true≢false, arith, length-append, eqb-true, le-leb, ltb-true, ltb-false}
use Rattle.std.proofs.Math.Nat.{pow-succ'}
use Rattle.std.proofs.Math.Seq.{take-append_seam, drop-append-add}
use Rattle.bits.specs.Basics.{pick, every, All}
use Rattle.bits.specs.BasicsLaws.{both_true}
use Rattle.text.specs.Text.{comma, line_feed, is_digit, is_number, value_from, number_up_to, lines_of, fields_of, digits_before, decimal, joined}
use Rattle.text.specs.ReadingForms.{count_before, digits_from, line_before, without}
use Rattle.text.specs.TextLaws.{count_all, digits_are, number_one, number_more, count-without, pieces-joined, pieces_whole, lines_next}

-- ---- a number
digit_is : (d : ℕ) → d < 10 → is_digit (48 + d) ≡ true
digit_is d h = rw (le-leb 48 (48 + d) (omega arith)) (le-leb (48 + d) 57 (omega arith))

pub tenth_below : (f n : ℕ) → n < 10 ^ suc f → n / 10 < 10 ^ f
tenth_below f n h = let e : 10 ^ suc f ≡ 10 * 10 ^ f = pow-succ' 10 f in omega arith

value_before : (f n : ℕ) (t : List ℕ) → n < 10 ^ f → value_from 0 (digits_before f n t) ≡ value_from n t
unfolding digits_before value_from
value_before zero n t h = let z : n ≡ 0 = omega arith in rw z
value_before (suc f) n t h = go (ltb n 10) (value_before f (n / 10) ((48 + n % 10) ∷ t) (tenth_below f n h))
  where
    go : (b : Bool) → value_from 0 (digits_before f (n / 10) ((48 + n % 10) ∷ t)) ≡ value_from (10 * (n / 10) + (48 + n % 10 - 48)) t
        → value_from 0 (pick b ((48 + n) ∷ t) (digits_before f (n / 10) ((48 + n % 10) ∷ t))) ≡ value_from n t
    go true next = let e : 10 * 0 + (48 + n - 48) ≡ n = omega arith in ap (λ (m : ℕ). value_from m t) e
    go false next = let e : 10 * (n / 10) + (48 + n % 10 - 48) ≡ n = omega arith in next ∙ ap (λ (m : ℕ). value_from m t) e

digits_before_lem : (f n : ℕ) (t : List ℕ) → every is_digit (digits_before f n t) ≡ every is_digit t
unfolding digits_before every
digits_before_lem zero n t = refl
digits_before_lem (suc f) n t = go (ltb n 10) refl (digits_before_lem f (n / 10) ((48 + n % 10) ∷ t))
  where
    go : (b : Bool) → ltb n 10 ≡ b
        → every is_digit (digits_before f (n / 10) ((48 + n % 10) ∷ t)) ≡ pick (is_digit (48 + n % 10)) (every is_digit t) false
        → every is_digit (pick b ((48 + n) ∷ t) (digits_before f (n / 10) ((48 + n % 10) ∷ t))) ≡ every is_digit t
    go true e next = rw (digit_is n (ltb-true n 10 e))
    go false e next = next ∙ rw (digit_is (n % 10) (omega arith))

length_before : (f n : ℕ) (t : List ℕ) → length t ≤ length (digits_before f n t)
unfolding digits_before
length_before zero n t = omega arith
length_before (suc f) n t = go (ltb n 10) (length_before f (n / 10) ((48 + n % 10) ∷ t))
  where
    go : (b : Bool) → suc (length t) ≤ length (digits_before f (n / 10) ((48 + n % 10) ∷ t))
        → length t ≤ length (pick b ((48 + n) ∷ t) (digits_before f (n / 10) ((48 + n % 10) ∷ t)))
    go true next = omega arith
    go false next = omega arith

one_digit : (f n : ℕ) (t : List ℕ) → ltb n 10 ≡ true → digits_before (suc f) n t ≡ (48 + n) ∷ t
unfolding digits_before
one_digit f n t e = rw e

two_digits : (f n : ℕ) (t : List ℕ) → ltb n 10 ≡ false → 1 + length t < length (digits_before (suc (suc f)) n t)
unfolding digits_before
two_digits f n t e = rw e (go (ltb (n / 10) 10) (length_before f (n / 10 / 10) ((48 + n / 10 % 10) ∷ (48 + n % 10) ∷ t)))
  where
    go : (b : Bool) → suc (suc (length t)) ≤ length (digits_before f (n / 10 / 10) ((48 + n / 10 % 10) ∷ (48 + n % 10) ∷ t))
        → 1 + length t < length (pick b ((48 + n / 10) ∷ (48 + n % 10) ∷ t) (digits_before f (n / 10 / 10) ((48 + n / 10 % 10) ∷ (48 + n % 10) ∷ t)))
    go true next = omega arith
    go false next = omega arith

first_before : (f n : ℕ) (t : List ℕ) → 1 ≤ n → n < 10 ^ f → get_or (digits_before f n t) 0 0 ≡ 48 → ⊥
unfolding digits_before
first_before zero n t h k = absurd (omega arith)
first_before (suc f) n t h k = go (ltb n 10) refl (λ i. first_before f (n / 10) ((48 + n % 10) ∷ t) i (tenth_below f n k))
  where
    go : (b : Bool) → ltb n 10 ≡ b → (1 ≤ n / 10 → get_or (digits_before f (n / 10) ((48 + n % 10) ∷ t)) 0 0 ≡ 48 → ⊥)
        → get_or (pick b ((48 + n) ∷ t) (digits_before f (n / 10) ((48 + n % 10) ∷ t))) 0 0 ≡ 48 → ⊥
    go true e next q = omega arith
    go false e next q = next (omega (arith, ltb-false n 10 e)) q

-- a written number is digits
pub decimal_digits : (n : ℕ) → every is_digit (decimal n) ≡ true
unfolding decimal every
decimal_digits n = digits_before_lem 20 n []

decimal_read : (most n : ℕ) → n < 10 ^ 20 → n ≤ most → digits_from most 0 (decimal n) ≡ Some n
unfolding decimal value_from
decimal_read most n h k =
    let v : value_from 0 (digits_before 20 n []) ≡ n = value_before 20 n [] h in
    digits_are most 0 (digits_before 20 n []) (omega arith) ∙ rw (decimal_digits n, v, le-leb n most k)

-- a written number is read back
pub decimal_back : (most n : ℕ) → n < 10 ^ 20 → n ≤ most → number_up_to most (decimal n) ≡ Some n
unfolding decimal
decimal_back most n h k = go (ltb n 10) refl ∙ decimal_read most n h k
  where
    go : (b : Bool) → ltb n 10 ≡ b → number_up_to most (digits_before 20 n []) ≡ digits_from most 0 (digits_before 20 n [])
    go true e = number_one most (digits_before 20 n []) (rw (one_digit 19 n [] e))
    go false e = number_more most (digits_before 20 n []) (two_digits 18 n [] e) (first_before 20 n [] (omega (arith, ltb-false n 10 e)) h)

-- digits hold no separator
pub digits_without : (s : ℕ) (t : List ℕ) → is_digit s ≡ false → every is_digit t ≡ true → without s t ≡ true
unfolding every
digits_without s [] d h = refl
digits_without s (c ∷ t) d h = go (eqb c s) refl (is_digit c) refl h (digits_without s t d)
  where
    go : (a : Bool) → eqb c s ≡ a → (b : Bool) → is_digit c ≡ b → pick b (every is_digit t) false ≡ true
        → (every is_digit t ≡ true → every (λ c. not (eqb c s)) t ≡ true) → pick (not a) (every (λ c. not (eqb c s)) t) false ≡ true
    go true p b q g next = absurd (true≢false (sym (rw (sym q ∙ ap is_digit (eqb-true c s p) ∙ d) at g)))
    go false p true q g next = next g
    go false p false q g next = absurd (true≢false (sym g))

-- ---- fields and lines
without-append : (s : ℕ) (l r : List ℕ) → without s l ≡ true → without s r ≡ true → without s (l ++ r) ≡ true
unfolding every
without-append s [] r h k = k
without-append s (c ∷ l) r h k = go (not (eqb c s)) h (λ e. without-append s l r e k)
  where
    go : (b : Bool) → pick b (every (λ c. not (eqb c s)) l) false ≡ true → (every (λ c. not (eqb c s)) l ≡ true → every (λ c. not (eqb c s)) (l ++ r) ≡ true)
        → pick b (every (λ c. not (eqb c s)) (l ++ r)) false ≡ true
    go true e next = next e
    go false e next = absurd (true≢false (sym e))

-- a line's fields are those that it was made of
pub fields_joined : (f : List ℕ) (fs : List (List ℕ)) → All (λ g. without comma g ≡ true) (f ∷ fs) → fields_of (joined (f ∷ fs)) ≡ f ∷ fs
unfolding fields_of joined
fields_joined f [] h = pieces_whole comma f h.0
fields_joined f (g ∷ gs) h = pieces-joined comma f (joined (g ∷ gs)) h.0 ∙ ap (λ (l : List (List ℕ)). f ∷ l) (fields_joined g gs h.1)

-- fields with no line feed make a line with none
pub joined-without : (fs : List (List ℕ)) → All (λ g. without line_feed g ≡ true) fs → without line_feed (joined fs) ≡ true
unfolding joined every
joined-without [] h = refl
joined-without (f ∷ []) h = h.0
joined-without (f ∷ (g ∷ gs)) h = without-append line_feed f (comma ∷ joined (g ∷ gs)) h.0 (joined-without (g ∷ gs) h.1)

-- a text that is a line, its line feed and a rest
pub lines_joined : (l r : List ℕ) → without line_feed l ≡ true → lines_of (l ++ (line_feed ∷ r)) ≡ line_before l (lines_of r)
lines_joined l r h =
    let n = count-without line_feed l r h in
    let long : count_before line_feed (l ++ (line_feed ∷ r)) < length (l ++ (line_feed ∷ r)) = omega (arith, n, length-append l (line_feed ∷ r)) in
    lines_next (l ++ (line_feed ∷ r)) long ∙ rw (n, take-append_seam, drop-append-add)

-- a number holds no comma
digits_number : (t : List ℕ) → is_number t ≡ true → every is_digit t ≡ true
unfolding is_number every
digits_number [] q = absurd (true≢false (sym q))
digits_number (c ∷ []) q = rw q
digits_number (c ∷ d ∷ t) q =
    let two = both_true (is_digit c && not (eqb c 48)) (pick (is_digit d) (every is_digit t) false) q in
    rw (both_true (is_digit c) (not (eqb c 48)) two.0).0 two.1

pub number_comma : (most : ℕ) (t : List ℕ) → count_before comma t < length t → number_up_to most t ≡ None
unfolding number_up_to
number_comma most t h = go (is_number t) refl
  where
    go : (b : Bool) → is_number t ≡ b → pick (b && leb (value_from 0 t) most) (Some (value_from 0 t)) None ≡ None
    go true q = absurd (omega (arith, count_all comma t (digits_without comma t refl (digits_number t q))))
    go false q = refl
