-- Laws of text: pieces and lines from the front, numbers byte after byte. Assumes nothing.
use Rattle.std.specs.Prelude.{ℕ, suc, ◌+◌, ◌-◌, ◌*◌, ◌≤◌, ◌<◌, ◌≡◌, refl, Bool, true, false, not, ◌&&◌, List, [], ◌∷◌, ◌++◌, eqb, leb, length, take, drop, get_or, Option, None, Some}
use Rattle.std.proofs.Common.{sym, ap, ◌∙◌, true≢false, add-one, arith, drop_of_length-le, length-append, drop-cons, eq-eqb, ne_eqb, leb-true, leb-false, ltb-true, ltb-false, le-leb}
use Rattle.std.proofs.Math.Seq.{take-append_seam, drop-append-add}
use Rattle.std.proofs.lemmas.Bool.{lt-leb}
use Rattle.std.proofs.lemmas.List.Recursion.{is_position_or_len}
use Rattle.std.specs.List.{position, position_or_len}
use Rattle.std.specs.Prelude.{cond, ltb, nat_eq}
use Rattle.std.specs.Cmp.Lexicographic.{pointwise}
use Rattle.bits.specs.Basics.{pick, every}
use Rattle.text.specs.Text.{line_feed, is_digit, is_number, value_from, number_up_to, onto, pieces, all_ended, lines_of, same}
use Rattle.text.specs.ReadingForms.{count_before, TextFound, digit_of, digits_from, line_before, without}

-- ---- tests
-- nothing is not something
pub none_some : {A B : Type 0} {x : A} → None ≡ Some x → B
none_some q = let z : ◌≡◌ {A = ℕ} 0 1 = cc in absurd (omega arith)

and_off : (a b : Bool) → b ≡ false → (a && b) ≡ false
and_off true b e = e
and_off false b e = refl

pick_cond : (a : Bool) (m n : ℕ) → pick a m (suc n) ≡ cond a m (1 + n)
pick_cond true m n = refl
pick_cond false m n = omega arith

pick_self : (a : Bool) → pick a true false ≡ a
pick_self true = refl
pick_self false = refl

and_pick : (a b c : Bool) → b ≡ true → ((a && b) && c) ≡ pick a c false
and_pick true b c e = rw e
and_pick false b c e = refl

-- ---- the bytes before the first of a kind
count_or : (x : Bool) (m n : ℕ) → m ≤ n → pick x 0 (suc m) ≤ suc n
count_or true m n h = omega arith
count_or false m n h = omega arith

pub count_le : (b : ℕ) (t : List ℕ) → count_before b t ≤ length t
unfolding count_before
count_le b [] = omega arith
count_le b (c ∷ t) = count_or (eqb c b) (count_before b t) (length t) (count_le b t)

-- one byte more that is another
pub count-step : (b : ℕ) (t : List ℕ) (i : ℕ) → i < length t → (get_or t i 0 ≡ b → ⊥) → count_before b (drop i t) ≡ suc (count_before b (drop (i + 1) t))
unfolding count_before
count-step b t i h n = rw (add-one, drop-cons t i 0 h, ne_eqb (get_or t i 0) b n)

-- the byte that is one
pub count_here : (b : ℕ) (t : List ℕ) (i : ℕ) → i < length t → get_or t i 0 ≡ b → count_before b (drop i t) ≡ 0
unfolding count_before
count_here b t i h e = rw (drop-cons t i 0 h, eq-eqb (get_or t i 0) b e)

-- past the last byte
pub count_end : (b : ℕ) (t : List ℕ) (i : ℕ) → length t ≤ i → count_before b (drop i t) ≡ 0
unfolding count_before
count_end b t i h = rw (drop_of_length-le t h)

place-in : (n m : ℕ) (b : ℕ) (t : List ℕ) → n ≡ count_before b t → m ≡ length t → n ≤ m → TextFound b t (cond (ltb n m) (Some n) None)
place-in n m b t e f h = go (ltb n m) refl
  where
    go : (q : Bool) → ltb n m ≡ q → TextFound b t (cond q (Some n) None)
    go true q = record { count = e; within = rw f at (ltb-true n m q) }
    go false q = omega (arith, ltb-false n m q)

-- the place of the first, as std's `position` has it
pub text_found : (b : ℕ) (t : List ℕ) (r : Option ℕ) → r ≡ position (λ c. eqb c b) t → TextFound b t r
unfolding count_before
text_found b t r e =
    let is : count_before b t ≡ position_or_len (λ c. eqb c b) t = is_position_or_len (count_before b) (λ c. eqb c b) refl (λ c cs. pick_cond (eqb c b) _ _) t in
    rw e (place-in _ _ b t (sym is) refl (omega (arith, is, count_le b t)))

-- ---- two texts
-- std's `==` of two slices
pub same_pointwise : (t u : List ℕ) → pointwise nat_eq t u ≡ same t u
unfolding same
same_pointwise [] [] = refl
same_pointwise [] (d ∷ u) = refl
same_pointwise (c ∷ t) [] = refl
same_pointwise (c ∷ t) (d ∷ u) = rw (same_pointwise t u)

-- texts of other lengths differ
pub same_length : (t u : List ℕ) → (length t ≡ length u → ⊥) → same t u ≡ false
unfolding same
same_length [] [] h = absurd (h refl)
same_length [] (d ∷ u) h = refl
same_length (c ∷ t) [] h = refl
same_length (c ∷ t) (d ∷ u) h = and_off (eqb c d) (same t u) (same_length t u (λ e. h (ap suc e)))

pub same_step_lem : (t u : List ℕ) (i : ℕ) → i < length t → i < length u → get_or t i 0 ≡ get_or u i 0 → same (drop i t) (drop i u) ≡ same (drop (i + 1) t) (drop (i + 1) u)
unfolding same
same_step_lem t u i h k e = rw (add-one, drop-cons t i 0 h, drop-cons u i 0 k, eq-eqb (get_or t i 0) (get_or u i 0) e)

pub same_other : (t u : List ℕ) (i : ℕ) → i < length t → i < length u → (get_or t i 0 ≡ get_or u i 0 → ⊥) → same (drop i t) (drop i u) ≡ false
unfolding same
same_other t u i h k n = rw (drop-cons t i 0 h, drop-cons u i 0 k, ne_eqb (get_or t i 0) (get_or u i 0) n)

pub same_end : (t u : List ℕ) (i : ℕ) → length t ≤ i → length u ≤ i → same (drop i t) (drop i u) ≡ true
unfolding same
same_end t u i h k = rw (drop_of_length-le t h, drop_of_length-le u k)

-- ---- digits byte after byte
digit_told : (c d : ℕ) → digit_of c ≡ Some d → (is_digit c ≡ true) × (c - 48 ≡ d)
digit_told c d = go (is_digit c)
  where
    go : (b : Bool) → pick b (Some (c - 48)) None ≡ Some d → (b ≡ true) × (c - 48 ≡ d)
    go true e = (refl, cc)
    go false e = none_some e

digit_other : (c : ℕ) → digit_of c ≡ None → is_digit c ≡ false
digit_other c = go (is_digit c)
  where
    go : (b : Bool) → pick b (Some (c - 48)) None ≡ None → b ≡ false
    go true e = none_some (sym e)
    go false e = refl

-- a digit more, and the number stays within its bound
pub digits_step : (most n d : ℕ) (t : List ℕ) (i : ℕ) → i < length t → digit_of (get_or t i 0) ≡ Some d → 10 * n + d ≤ most
    → digits_from most n (drop i t) ≡ digits_from most (10 * n + d) (drop (i + 1) t)
unfolding digits_from
digits_step most n d t i h e fits =
    let told = digit_told (get_or t i 0) d e in
    rw (add-one, drop-cons t i 0 h, told.0, told.1, le-leb (10 * n + d) most fits)

-- a byte that is no digit
pub digits_other : (most n : ℕ) (t : List ℕ) (i : ℕ) → i < length t → digit_of (get_or t i 0) ≡ None → digits_from most n (drop i t) ≡ None
unfolding digits_from
digits_other most n t i h e = rw (drop-cons t i 0 h, digit_other (get_or t i 0) e)

-- a digit that passes the bound
pub digits_past : (most n d : ℕ) (t : List ℕ) (i : ℕ) → i < length t → digit_of (get_or t i 0) ≡ Some d → most < 10 * n + d
    → digits_from most n (drop i t) ≡ None
unfolding digits_from
digits_past most n d t i h e past =
    let told = digit_told (get_or t i 0) d e in
    rw (drop-cons t i 0 h, told.0, told.1, lt-leb (10 * n + d) most past)

pub digits_end : (most n : ℕ) (t : List ℕ) (i : ℕ) → length t ≤ i → digits_from most n (drop i t) ≡ Some n
unfolding digits_from
digits_end most n t i h = rw (drop_of_length-le t h)

value_grows : (n : ℕ) (t : List ℕ) → n ≤ value_from n t
unfolding value_from
value_grows n [] = omega arith
value_grows n (c ∷ t) = omega (arith, value_grows (10 * n + (c - 48)) t)

pick-none : (a b : Bool) (v : Option ℕ) → b ≡ false → pick (a && b) v None ≡ None
pick-none true b v e = rw e
pick-none false b v e = refl

-- digits read byte after byte: all of them digits, and the number within its bound
pub digits_are : (most n : ℕ) (t : List ℕ) → n ≤ most → digits_from most n t ≡ pick (every is_digit t && leb (value_from n t) most) (Some (value_from n t)) None
unfolding digits_from value_from every
digits_are most n [] h = rw (le-leb n most h)
digits_are most n (c ∷ t) h = go (is_digit c) (leb m most) refl (λ k. digits_are most m t k)
  where
    m : ℕ
    m = 10 * n + (c - 48)

    go : (a b : Bool) → leb m most ≡ b
        → (m ≤ most → digits_from most m t ≡ pick (every is_digit t && leb (value_from m t) most) (Some (value_from m t)) None)
        → pick (a && b) (digits_from most m t) None ≡ pick (pick a (every is_digit t) false && leb (value_from m t) most) (Some (value_from m t)) None
    go true true e next = next (leb-true m most e)
    go true false e next =
        sym (pick-none (every is_digit t) (leb (value_from m t) most) (Some (value_from m t))
        (lt-leb (value_from m t) most (omega (arith, leb-false m most e, value_grows m t))))
    go false b e next = refl

-- ---- numbers
pub number_empty : (most : ℕ) (t : List ℕ) → length t ≡ 0 → number_up_to most t ≡ None
unfolding number_up_to is_number
number_empty most [] h = refl
number_empty most (c ∷ t) h = absurd (omega arith)

pub number_zeros : (most : ℕ) (t : List ℕ) → 1 < length t → get_or t 0 0 ≡ 48 → number_up_to most t ≡ None
unfolding number_up_to is_number
number_zeros most [] h e = absurd (omega arith)
number_zeros most (c ∷ []) h e = absurd (omega arith)
number_zeros most (c ∷ d ∷ t) h e =
    rw (and_off (is_digit c) (not (eqb c 48)) (rw (eq-eqb c 48 e)))

-- one digit
pub number_one : (most : ℕ) (t : List ℕ) → length t ≡ 1 → number_up_to most t ≡ digits_from most 0 t
unfolding number_up_to is_number every
number_one most [] h = absurd (omega arith)
number_one most (c ∷ []) h = sym (digits_are most 0 (c ∷ []) (omega arith) ∙ rw (pick_self (is_digit c)))
number_one most (c ∷ d ∷ t) h = absurd (omega arith)

-- several, the first not 0
pub number_more : (most : ℕ) (t : List ℕ) → 1 < length t → (get_or t 0 0 ≡ 48 → ⊥) → number_up_to most t ≡ digits_from most 0 t
unfolding number_up_to is_number every
number_more most [] h n = absurd (omega arith)
number_more most (c ∷ []) h n = absurd (omega arith)
number_more most (c ∷ d ∷ t) h n =
    sym (digits_are most 0 (c ∷ d ∷ t) (omega arith) ∙ rw (← and_pick (is_digit c) (not (eqb c 48)) (pick (is_digit d) (every is_digit t) false) (rw (ne_eqb c 48 n))))

-- a number that was read is within its bound
pub number_le : (most n : ℕ) (t : List ℕ) → number_up_to most t ≡ Some n → n ≤ most
unfolding number_up_to
number_le most n t = go (is_number t) (leb (value_from 0 t) most) refl
  where
    go : (a b : Bool) → leb (value_from 0 t) most ≡ b → pick (a && b) (Some (value_from 0 t)) None ≡ Some n → n ≤ most
    go true true e q = let v : value_from 0 t ≡ n = cc in omega (arith, leb-true (value_from 0 t) most e)
    go true false e q = none_some q
    go false b e q = none_some q

-- ---- pieces
-- no separator: the text is the one piece
pub pieces_last : (s : ℕ) (t : List ℕ) → count_before s t ≡ length t → pieces s t ≡ t ∷ []
unfolding pieces count_before
pieces_last s [] h = refl
pieces_last s (c ∷ t) h = go (eqb c s) (λ e. pieces_last s t e) h
  where
    go : (b : Bool) → (count_before s t ≡ length t → pieces s t ≡ t ∷ []) → pick b 0 (suc (count_before s t)) ≡ suc (length t)
        → pick b ([] ∷ pieces s t) (onto c (pieces s t)) ≡ (c ∷ t) ∷ []
    go true next e = absurd (omega arith)
    go false next e = rw (next (omega arith))

-- the first piece, and those of what stands behind its separator
pub pieces_next : (s : ℕ) (t : List ℕ) → count_before s t < length t
    → pieces s t ≡ take (count_before s t) t ∷ pieces s (drop (count_before s t + 1) t)
unfolding pieces count_before
pieces_next s [] h = absurd (omega arith)
pieces_next s (c ∷ t) h = go (eqb c s) (λ e. pieces_next s t e) h
  where
    go : (b : Bool)
        → (count_before s t < length t → pieces s t ≡ take (count_before s t) t ∷ pieces s (drop (count_before s t + 1) t))
        → pick b 0 (suc (count_before s t)) < suc (length t)
        → pick b ([] ∷ pieces s t) (onto c (pieces s t))
        ≡ take (pick b 0 (suc (count_before s t))) (c ∷ t) ∷ pieces s (drop (pick b 0 (suc (count_before s t)) + 1) (c ∷ t))
    go true next e = refl
    go false next e =
        let m : suc (count_before s t) + 1 ≡ suc (count_before s t + 1) = omega arith in
        rw (m, next (omega arith))

-- a text that is a piece, a separator and a rest
pub count-without : (s : ℕ) (l r : List ℕ) → without s l ≡ true → count_before s (l ++ (s ∷ r)) ≡ length l
unfolding count_before every
count-without s [] r h = rw (eq-eqb s s refl)
count-without s (c ∷ l) r h = go (eqb c s) h (λ e. count-without s l r e)
  where
    go : (b : Bool) → pick (not b) (every (λ c. not (eqb c s)) l) false ≡ true
        → (every (λ c. not (eqb c s)) l ≡ true → count_before s (l ++ (s ∷ r)) ≡ length l)
        → pick b 0 (suc (count_before s (l ++ (s ∷ r)))) ≡ suc (length l)
    go true e next = absurd (true≢false (sym e))
    go false e next = ap suc (next e)

-- a text with no separator
pub count_all : (s : ℕ) (l : List ℕ) → without s l ≡ true → count_before s l ≡ length l
unfolding count_before every
count_all s [] h = refl
count_all s (c ∷ l) h = go (eqb c s) h (λ e. count_all s l e)
  where
    go : (b : Bool) → pick (not b) (every (λ c. not (eqb c s)) l) false ≡ true
        → (every (λ c. not (eqb c s)) l ≡ true → count_before s l ≡ length l)
        → pick b 0 (suc (count_before s l)) ≡ suc (length l)
    go true e next = absurd (true≢false (sym e))
    go false e next = ap suc (next e)

pub pieces-joined : (s : ℕ) (l r : List ℕ) → without s l ≡ true → pieces s (l ++ (s ∷ r)) ≡ l ∷ pieces s r
pieces-joined s l r h =
    let n = count-without s l r h in
    let long : count_before s (l ++ (s ∷ r)) < length (l ++ (s ∷ r)) = omega (arith, n, length-append l (s ∷ r)) in
    pieces_next s (l ++ (s ∷ r)) long ∙ rw (n, take-append_seam, drop-append-add)

pub pieces_whole : (s : ℕ) (l : List ℕ) → without s l ≡ true → pieces s l ≡ l ∷ []
pieces_whole s l h = pieces_last s l (count_all s l h)

-- ---- lines
-- a text has a piece
pub some_piece : (s : ℕ) (t : List ℕ) → 0 < length (pieces s t)
unfolding pieces
some_piece s [] = omega arith
some_piece s (c ∷ t) = go (eqb c s) (pieces s t)
  where
    go : (b : Bool) (ps : List (List ℕ)) → 0 < length (pick b ([] ∷ ps) (onto c ps))
    go true ps = omega arith
    go false [] = omega arith
    go false (p ∷ ps) = omega arith

-- a line and the pieces behind it
pub ended-step : (l : List ℕ) (ps : List (List ℕ)) → 0 < length ps → all_ended (l ∷ ps) ≡ line_before l (all_ended ps)
unfolding all_ended
ended-step l [] h = absurd (omega arith)
ended-step [] (m ∷ ms) h = go (all_ended (m ∷ ms))
  where
    go : (o : Option (List (List ℕ))) → (elim o [ None ↦ None | Some ls ↦ Some ([] ∷ ls) ]) ≡ line_before [] o
    go None = refl
    go (Some ls) = refl
ended-step (c ∷ l) (m ∷ ms) h = go (all_ended (m ∷ ms))
  where
    go : (o : Option (List (List ℕ))) → (elim o [ None ↦ None | Some ls ↦ Some ((c ∷ l) ∷ ls) ]) ≡ line_before (c ∷ l) o
    go None = refl
    go (Some ls) = refl

pub lines_none : (t : List ℕ) → length t ≡ 0 → lines_of t ≡ Some []
unfolding lines_of pieces all_ended
lines_none [] h = refl
lines_none (c ∷ t) h = absurd (omega arith)

-- a last line that is not ended
pub lines_open : (t : List ℕ) → 0 < length t → count_before line_feed t ≡ length t → lines_of t ≡ None
unfolding lines_of all_ended
lines_open [] h e = absurd (omega arith)
lines_open (c ∷ t) h e = rw (pieces_last line_feed (c ∷ t) e)

pub lines_next : (t : List ℕ) → count_before line_feed t < length t
    → lines_of t ≡ line_before (take (count_before line_feed t) t) (lines_of (drop (count_before line_feed t + 1) t))
unfolding lines_of
lines_next t h =
    let n : ℕ = count_before line_feed t in
    rw (pieces_next line_feed t h) (ended-step (take n t) (pieces line_feed (drop (n + 1) t)) (some_piece line_feed (drop (n + 1) t)))
