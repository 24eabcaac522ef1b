-- A test that antt computes fast: of a list of codes, none begins another. Each code is entered into a binary tree, in as many steps as it has bits.
use Rattle.std.specs.Prelude.{ℕ, zero, suc, ◌≡◌, refl, Bool, true, false, ◌&&◌, ◌||◌, List, [], ◌∷◌, eqb}
use Rattle.std.proofs.Common.{sym, true≢false}
use Rattle.std.proofs.Math.Dec.{eqb-zero-suc, eqb-suc-zero}
use Rattle.bits.specs.BasicsLaws.{both_true}
use Rattle.code_tables.specs.Codes.{begins, clash, apart, prefix_free}

-- what the codes entered so far make: nothing, the end of a code, or two branches
pub data Trie : Type 0 where
  none : Trie
  leaf : Trie
  node : Trie → Trie → Trie

-- c can be entered: it passes no leaf and ends where nothing stands
unfoldable pub free : List ℕ → Trie → Bool
free [] none = true
free [] leaf = false
free [] (node a b) = false
free (x ∷ c) none = true
free (x ∷ c) leaf = false
free (zero ∷ c) (node a b) = free c a
free (suc x ∷ c) (node a b) = free c b

-- with c entered
unfoldable pub enter : List ℕ → Trie → Trie
enter [] t = leaf
enter (zero ∷ c) none = node (enter c none) none
enter (zero ∷ c) leaf = leaf
enter (zero ∷ c) (node a b) = node (enter c a) b
enter (suc x ∷ c) none = node none (enter c none)
enter (suc x ∷ c) leaf = leaf
enter (suc x ∷ c) (node a b) = node a (enter c b)

-- each of the codes can be entered, one after the other
unfoldable pub all_free : Trie → List (List ℕ) → Bool
all_free t [] = true
all_free t (c ∷ cs) = free c t && all_free (enter c t) cs

-- d ends in a leaf of the tree
abbrev Has : List ℕ → Trie → Type 0
Has [] none = ⊥
Has [] leaf = Unit
Has [] (node a b) = ⊥
Has (x ∷ d) none = ⊥
Has (x ∷ d) leaf = ⊥
Has (zero ∷ d) (node a b) = Has d a
Has (suc x ∷ d) (node a b) = Has d b

both_false : (a : Bool) → (a && false) ≡ false
both_false true = refl
both_false false = refl

either_false : (a b : Bool) → (a || b) ≡ false → (a ≡ false) × (b ≡ false)
either_false true b e = absurd (true≢false e)
either_false false b e = (refl, e)

-- what is entered clashes with nothing that can be entered
clash-free : (d c : List ℕ) (t : Trie) → free c t ≡ true → Has d t → clash d c ≡ false
unfolding free begins
clash-free [] [] none e h = absurd h
clash-free [] [] leaf e h = absurd (true≢false (sym e))
clash-free [] [] (node a b) e h = absurd h
clash-free [] (y ∷ c) none e h = absurd h
clash-free [] (y ∷ c) leaf e h = absurd (true≢false (sym e))
clash-free [] (y ∷ c) (node a b) e h = absurd h
clash-free (x ∷ d) [] none e h = absurd h
clash-free (x ∷ d) [] leaf e h = absurd h
clash-free (x ∷ d) [] (node a b) e h = absurd (true≢false (sym e))
clash-free (x ∷ d) (y ∷ c) none e h = absurd h
clash-free (x ∷ d) (y ∷ c) leaf e h = absurd h
clash-free (zero ∷ d) (zero ∷ c) (node a b) e h =
    let r = either_false (begins d c) (begins c d) (clash-free d c a e h) in rw (r.0, r.1)
clash-free (zero ∷ d) (suc y ∷ c) (node a b) e h = rw (eqb-zero-suc y, eqb-suc-zero y)
clash-free (suc x ∷ d) (zero ∷ c) (node a b) e h = rw (eqb-zero-suc x, eqb-suc-zero x)
clash-free (suc x ∷ d) (suc y ∷ c) (node a b) e h =
    let r = either_false (begins d c) (begins c d) (clash-free d c b e h) in
    rw (r.0, r.1, both_false (eqb (suc x) (suc y)), both_false (eqb (suc y) (suc x)))

-- and stays when another is entered
kept : (d c : List ℕ) (t : Trie) → free c t ≡ true → Has d t → Has d (enter c t)
unfolding free enter
kept [] [] none e h = absurd h
kept [] [] leaf e h = h
kept [] [] (node a b) e h = absurd h
kept [] (y ∷ c) none e h = absurd h
kept [] (y ∷ c) leaf e h = absurd (true≢false (sym e))
kept [] (y ∷ c) (node a b) e h = absurd h
kept (x ∷ d) [] none e h = absurd h
kept (x ∷ d) [] leaf e h = absurd h
kept (x ∷ d) [] (node a b) e h = absurd (true≢false (sym e))
kept (x ∷ d) (y ∷ c) none e h = absurd h
kept (x ∷ d) (y ∷ c) leaf e h = absurd h
kept (zero ∷ d) (zero ∷ c) (node a b) e h = kept d c a e h
kept (zero ∷ d) (suc y ∷ c) (node a b) e h = h
kept (suc x ∷ d) (zero ∷ c) (node a b) e h = h
kept (suc x ∷ d) (suc y ∷ c) (node a b) e h = kept d c b e h

free-none : (c : List ℕ) → free c none ≡ true
unfolding free
free-none [] = refl
free-none (x ∷ c) = refl

entered : (c : List ℕ) (t : Trie) → free c t ≡ true → Has c (enter c t)
unfolding free enter
entered [] none e = tt
entered [] leaf e = tt
entered [] (node a b) e = tt
entered (zero ∷ c) none e = entered c none (free-none c)
entered (zero ∷ c) leaf e = absurd (true≢false (sym e))
entered (zero ∷ c) (node a b) e = entered c a e
entered (suc x ∷ c) none e = entered c none (free-none c)
entered (suc x ∷ c) leaf e = absurd (true≢false (sym e))
entered (suc x ∷ c) (node a b) e = entered c b e

apart_all : (d : List ℕ) (cs : List (List ℕ)) (t : Trie) → all_free t cs ≡ true → Has d t → apart d cs ≡ true
unfolding all_free apart
apart_all d [] t e h = refl
apart_all d (c ∷ cs) t e h =
    let two = both_true (free c t) (all_free (enter c t) cs) e in
    rw (clash-free d c t two.0 h) (apart_all d cs (enter c t) two.1 (kept d c t two.0 h))

all_free_lem : (cs : List (List ℕ)) (t : Trie) → all_free t cs ≡ true → prefix_free cs ≡ true
unfolding all_free prefix_free
all_free_lem [] t e = refl
all_free_lem (c ∷ cs) t e =
    let two = both_true (free c t) (all_free (enter c t) cs) e in
    rw (apart_all c cs (enter c t) two.1 (entered c t two.0)) (all_free_lem cs (enter c t) two.1)

-- the test shows what it is for
pub free_is : (cs : List (List ℕ)) → all_free none cs ≡ true → prefix_free cs ≡ true
free_is cs e = all_free_lem cs none e
