-- Laws of the words that every crate's definitions share.
use Rattle.std.specs.Prelude.{ℕ, zero, suc, ◌+◌, ◌-◌, ◌≤◌, ◌<◌, ◌≡◌, refl, Bool, true, false, ◌&&◌, ◌||◌, List, [], ◌∷◌, ◌++◌, eqb, length, get_or, take, drop}
use Rattle.std.proofs.Common.{sym, ap, ◌∙◌, true≢false, add-zero, not-suc-le-zero, le_of_suc-le-suc, arith, length-append, length-drop, take_all, eq-eqb, ne_eqb, eqb-true}
use Rattle.std.proofs.Math.Decide.{ℕ_discrete}
use Rattle.std.proofs.lemmas.Bool.{eqb-false}
use Rattle.bits.specs.Basics.{All, or_else, first_of, unless, values_from}

-- ---- tests
pub both_true : (a b : Bool) → (a && b) ≡ true → (a ≡ true) × (b ≡ true)
both_true true b e = (refl, e)
both_true false b e = absurd (true≢false (sym e))

pub either_right : (a : Bool) → (a || true) ≡ true
either_right true = refl
either_right false = refl

-- a test that cannot be true is false
pub is_false : (b : Bool) → (b ≡ true → ⊥) → b ≡ false
is_false true h = absurd (h refl)
is_false false h = refl

-- ---- refusals
-- of two refusals the first, where it is one
pub or_first : (a b : ℕ) → (a ≡ 0 → ⊥) → or_else a b ≡ a
or_first a b h = rw (ne_eqb a 0 h)

-- else the second
pub or_next : (a b : ℕ) → a ≡ 0 → or_else a b ≡ b
or_next a b h = rw (eq-eqb a 0 h)

-- where both pass, neither refuses
pub or_none : (a b : ℕ) → or_else a b ≡ 0 → (a ≡ 0) × (b ≡ 0)
or_none a b h = go (eqb a 0) refl
  where
    go : (t : Bool) → eqb a 0 ≡ t → (a ≡ 0) × (b ≡ 0)
    go true e = (eqb-true a 0 e, rw e at h)
    go false e = absurd (eqb-false a 0 e (rw e at h))

-- ---- a chain of refusals
or_zero : (a : ℕ) → or_else a 0 ≡ a
or_zero a = go (eqb a 0) refl
  where
    go : (t : Bool) → eqb a 0 ≡ t → or_else a 0 ≡ a
    go true e = rw e (sym (eqb-true a 0 e))
    go false e = rw e

-- r is its answer: its first link refuses with r, it passes, or it is the last
pub first_met : (r n : ℕ) (ns : List ℕ) → r ≡ n → (r ≡ 0 → ⊥) → r ≡ first_of (n ∷ ns)
unfolding first_of
first_met r n ns e h = e ∙ sym (or_first n (first_of ns) (λ z. h (e ∙ z)))

pub first_passed : (r n : ℕ) (ns : List ℕ) → n ≡ 0 → r ≡ first_of ns → r ≡ first_of (n ∷ ns)
unfolding first_of
first_passed r n ns z e = e ∙ sym (or_next n (first_of ns) z)

pub first_last : (r n : ℕ) → r ≡ n → r ≡ first_of (n ∷ [])
unfolding first_of
first_last r n e = e ∙ sym (or_zero n)

or_assoc : (a b c d : ℕ) → b ≡ or_else c d → or_else a b ≡ or_else (or_else a c) d
or_assoc a b c d h = go (eqb a 0) refl
  where
    go : (t : Bool) → eqb a 0 ≡ t → or_else a b ≡ or_else (or_else a c) d
    go true e = rw e h
    go false e = rw (e, e)

-- two chains, one behind the other
pub first-append : (ns ms : List ℕ) → first_of (ns ++ ms) ≡ or_else (first_of ns) (first_of ms)
unfolding first_of
first-append [] ms = refl
first-append (n ∷ ns) ms = or_assoc n (first_of (ns ++ ms)) (first_of ns) (first_of ms) (first-append ns ms)

-- r is the answer of the first of them where that refuses, else of the second
pub chain_met : (r : ℕ) (ns ms : List ℕ) → r ≡ first_of ns → (r ≡ 0 → ⊥) → r ≡ first_of (ns ++ ms)
chain_met r ns ms e h = e ∙ sym (first-append ns ms ∙ or_first (first_of ns) (first_of ms) (λ z. h (e ∙ z)))

pub chain_passed : (r : ℕ) (ns ms : List ℕ) → first_of ns ≡ 0 → r ≡ first_of ms → r ≡ first_of (ns ++ ms)
chain_passed r ns ms z e = e ∙ sym (first-append ns ms ∙ or_next (first_of ns) (first_of ms) z)

pub two_links : (a b : ℕ) → first_of (a ∷ b ∷ []) ≡ or_else a b
unfolding first_of
two_links a b = ap (or_else a) (or_zero b)

-- where none of it refuses, each link passes
pub first-none : (ns : List ℕ) → first_of ns ≡ 0 → All (λ n. n ≡ 0) ns
unfolding first_of
first-none [] e = tt
first-none (n ∷ ns) e = let p = or_none n (first_of ns) e in (p.0, first-none ns p.1)

pub unless-none : (b : Bool) (n : ℕ) → 0 < n → unless b n ≡ 0 → b ≡ true
unless-none true n h e = refl
unless-none false n h e = absurd (omega arith)

-- ---- the values f j, f (j + 1), ..
pub length_values : {A : Type 0} (f : ℕ → A) (n j : ℕ) → length (values_from f n j) ≡ n
unfolding values_from
length_values f zero j = refl
length_values f (suc n) j = ap suc (length_values f n (suc j))

-- each by its place
pub value_at : {A : Type 0} (f : ℕ → A) (n j i : ℕ) (d : A) → i < n → get_or (values_from f n j) i d ≡ f (j + i)
unfolding values_from
value_at f zero j i d h = absurd (not-suc-le-zero h)
value_at f (suc n) j zero d h = rw (add-zero j)
value_at f (suc n) j (suc i) d h =
    let e : suc j + i ≡ j + suc i = omega arith in
    value_at f n (suc j) i d (le_of_suc-le-suc h) ∙ ap f e

-- one more
pub values_more : {A : Type 0} (f : ℕ → A) (n j : ℕ) → values_from f (suc n) j ≡ values_from f n j ++ (f (j + n) ∷ [])
unfolding values_from
values_more f zero j = rw (add-zero j)
values_more f (suc n) j =
    let e : suc j + n ≡ j + suc n = omega arith in
    ap (◌∷◌ (f j)) (values_more f n (suc j) ∙ ap (λ (k : ℕ). values_from f n (suc j) ++ (f k ∷ [])) e)

-- ---- a rule at every number below n, by one computed test
unfoldable pub below : (ℕ → Bool) → ℕ → Bool
below f zero = true
below f (suc n) = f n && below f n

pub below_at : (f : ℕ → Bool) (n i : ℕ) → below f n ≡ true → i < n → f i ≡ true
unfolding below
below_at f zero i e h = absurd (omega arith)
below_at f (suc n) i e h =
    let two = both_true (f n) (below f n) e in
    elim (ℕ_discrete i n) [ yes q ↦ rw q two.0 | no q ↦ below_at f n i two.1 (omega arith) ]

-- ---- parts of a slice
-- the part from element k on, as a slice has it
abbrev pub part_from : ℕ → List ℕ → List ℕ
part_from k t = take (length t - k) (drop k t)

pub part_from_lem : (k : ℕ) (t : List ℕ) → part_from k t ≡ drop k t
part_from_lem k t = take_all (length t - k) (drop k t) (omega (arith, length-drop k t))

pub length_part : (k : ℕ) (t : List ℕ) → length (part_from k t) ≡ length t - k
length_part k t = rw (part_from_lem k t) (length-drop k t)

-- a slice whose first n elements are replaced keeps its length
pub front_size : (new old : List ℕ) (n : ℕ) → length new ≡ n → n ≤ length old → length (new ++ drop n old) ≡ length old
front_size new old n e h = simp (length-append, length-drop) (omega arith)
