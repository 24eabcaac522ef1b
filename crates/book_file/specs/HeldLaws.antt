-- Laws of what a scan of lines leaves: the marks count the lines of each entry, a scan that stops met an entry twice, and of lines in order the book's bytes
-- follow each other. Assumes nothing.
use Rattle.std.specs.Prelude.{ℕ, zero, suc, ◌+◌, ◌*◌, ◌≤◌, ◌<◌, ◌≡◌, refl, Bool, true, false, ◌&&◌, List, [], ◌∷◌, ◌++◌, eqb, ltb, length, get_or, set, None, Some}
use Rattle.std.proofs.Common.{sym, ap, ◌∙◌, arith, length-set, get_or-set_same, get_or-set_other, eqb-true, eq-eqb, ltb-true, ltb-false}
use Rattle.std.proofs.Math.ListN.{get_or-eq_default}
use Rattle.std.proofs.lemmas.Bool.{eqb-false}
use Rattle.bits.specs.Basics.{pick, every}
use Rattle.bits.specs.BasicsLaws.{both_true}
use Rattle.text.specs.TextLaws.{none_some}
use Rattle.text.specs.WritingForms.{put_text}
use Rattle.text.specs.PutLaws.{append_put, put_length, put_empty}
use Rattle.book_file.specs.BookFile.{Line, mentions, once_each, in_order}
use Rattle.book_file.specs.BookFileForms.{BookHeld, entry_held, kept, scan_lines, all_met}

-- ---- a scan that goes through
scan_split : (k : ℕ) (l : Line) (ls : List Line) (s t : BookHeld) → scan_lines k (l ∷ ls) s ≡ Some t
    → (get_or s.met l.entry 0 ≡ 0) × (scan_lines (suc k) ls (kept k l s) ≡ Some t)
unfolding scan_lines
scan_split k l ls s t q = go (eqb (get_or s.met l.entry 0) 0) refl q
  where
    go : (b : Bool) → eqb (get_or s.met l.entry 0) 0 ≡ b → pick b (scan_lines (suc k) ls (kept k l s)) None ≡ Some t
        → (get_or s.met l.entry 0 ≡ 0) × (scan_lines (suc k) ls (kept k l s) ≡ Some t)
    go true e h = (eqb-true (get_or s.met l.entry 0) 0 e, h)
    go false e h = none_some h

scan_last : (k : ℕ) (s t : BookHeld) → scan_lines k [] s ≡ Some t → s ≡ t
unfolding scan_lines
scan_last k s t q = cc

and_true : (a : Bool) → (a && true) ≡ a
and_true true = refl
and_true false = refl

and_and : (a b c : Bool) → ((a && b) && c) ≡ (a && (b && c))
and_and true b c = refl
and_and false b c = refl

-- the lines followed a book's order
pub scan_ordered : (k : ℕ) (ls : List Line) (s t : BookHeld) → scan_lines k ls s ≡ Some t → t.ordered ≡ (s.ordered && in_order k ls)
unfolding in_order kept
scan_ordered k [] s t q = ap (λ (h : BookHeld). h.ordered) (sym (scan_last k s t q)) ∙ sym (and_true s.ordered)
scan_ordered k (l ∷ ls) s t q = scan_ordered (suc k) ls (kept k l s) t (scan_split k l ls s t q).1 ∙ and_and s.ordered (eqb l.entry k) (in_order (suc k) ls)

pub scan_length : (k : ℕ) (ls : List Line) (s t : BookHeld) → scan_lines k ls s ≡ Some t → length t.met ≡ length s.met
unfolding kept
scan_length k [] s t q = rw (scan_last k s t q)
scan_length k (l ∷ ls) s t q = scan_length (suc k) ls (kept k l s) t (scan_split k l ls s t q).1 ∙ length-set s.met l.entry 1

-- the bytes of lines as they are held
unfoldable pub held_of : List Line → List ℕ
held_of [] = []
held_of (l ∷ ls) = entry_held l.long l.value ++ held_of ls

-- lines in order leave their bytes one behind the other
pub scan_bytes : (k : ℕ) (ls : List Line) (s t : BookHeld) → scan_lines k ls s ≡ Some t → in_order k ls ≡ true → 3 * (k + length ls) ≤ length s.book
    → t.book ≡ put_text s.book (3 * k) (held_of ls)
unfolding in_order kept held_of
scan_bytes k [] s t q o h = ap (λ (x : BookHeld). x.book) (sym (scan_last k s t q)) ∙ sym (put_empty s.book (3 * k))
scan_bytes k (l ∷ ls) s t q o h =
    let two = both_true (eqb l.entry k) (in_order (suc k) ls) o in
    let e : l.entry ≡ k = eqb-true l.entry k two.0 in
    let z : 3 * suc k ≡ 3 * k + 3 = omega arith in
    let b : List ℕ = entry_held l.long l.value in
    let put : List ℕ = put_text s.book (3 * l.entry) b in
    let size : length put ≡ length s.book = put_length s.book (3 * l.entry) b (omega arith) in
    let next : t.book ≡ put_text put (3 * suc k) (held_of ls) = scan_bytes (suc k) ls (kept k l s) t (scan_split k l ls s t q).1 two.1 (omega (arith, size)) in
    next ∙ rw (e, z) (append_put s.book (3 * k) b (held_of ls) (omega arith))

met_step : (m : List ℕ) (i e : ℕ) → get_or m i 0 ≡ 0 → e < length m → get_or (set m i 1) e 0 ≡ get_or m e 0 + pick (eqb i e) 1 0
met_step m i e z h = go (eqb i e) refl
  where
    go : (b : Bool) → eqb i e ≡ b → get_or (set m i 1) e 0 ≡ get_or m e 0 + pick b 1 0
    go true q = let p = eqb-true i e q in rw p (get_or-set_same m e 1 0 h ∙ sym (rw (rw p at z)))
    go false q = get_or-set_other m i e 1 0 (λ p. eqb-false i e q (sym p)) ∙ omega arith

-- the marks count the lines of each entry
pub scan_met : (k : ℕ) (ls : List Line) (s t : BookHeld) (e : ℕ) → scan_lines k ls s ≡ Some t → e < length s.met → get_or t.met e 0 ≡ get_or s.met e 0 + mentions e ls
unfolding kept mentions
scan_met k [] s t e q h = rw (scan_last k s t q) (omega arith)
scan_met k (l ∷ ls) s t e q h =
    let two = scan_split k l ls s t q in
    let step = met_step s.met l.entry e two.0 h in
    let next = scan_met (suc k) ls (kept k l s) t e two.1 (rw (length-set s.met l.entry 1) h) in
    next ∙ rw step (omega arith)

-- ---- a scan that stops
-- an entry with two lines
pub record Doubled (met : List ℕ) (ls : List Line) : Type 0 where
  pub entry : ℕ
  pub below : entry < length met
  pub twice : 2 ≤ get_or met entry 0 + mentions entry ls

marked : (m : List ℕ) (i : ℕ) → (get_or m i 0 ≡ 0 → ⊥) → i < length m
marked m i n = go (ltb i (length m)) refl
  where
    go : (b : Bool) → ltb i (length m) ≡ b → i < length m
    go true q = ltb-true i (length m) q
    go false q = absurd (n (get_or-eq_default m 0 (ltb-false i (length m) q)))

doubled_now : (l : Line) (ls : List Line) (m : List ℕ) → (get_or m l.entry 0 ≡ 0 → ⊥) → Doubled m (l ∷ ls)
unfolding mentions
doubled_now l ls m n = record { entry = l.entry; below = marked m l.entry n; twice = rw (eq-eqb l.entry l.entry refl) (omega (arith, n)) }

met_most : (m : List ℕ) (i e : ℕ) → e < length m → get_or (set m i 1) e 0 ≤ get_or m e 0 + pick (eqb i e) 1 0
met_most m i e h = go (eqb i e) refl
  where
    go : (b : Bool) → eqb i e ≡ b → get_or (set m i 1) e 0 ≤ get_or m e 0 + pick b 1 0
    go true q = rw (eqb-true i e q) (rw (get_or-set_same m e 1 0 h) (omega arith))
    go false q = omega (arith, get_or-set_other m i e 1 0 (λ p. eqb-false i e q (sym p)))

doubled_before : (k : ℕ) (l : Line) (ls : List Line) (s : BookHeld) → Doubled (kept k l s).met ls → Doubled s.met (l ∷ ls)
unfolding mentions kept
doubled_before k l ls s d =
    let h : d.entry < length s.met = rw (length-set s.met l.entry 1) at d.below in
    record { entry = d.entry; below = h; twice = omega (arith, d.twice, met_most s.met l.entry d.entry h) }

pub scan_doubled : (k : ℕ) (ls : List Line) (s : BookHeld) → scan_lines k ls s ≡ None → Doubled s.met ls
unfolding scan_lines
scan_doubled k [] s q = none_some (sym q)
scan_doubled k (l ∷ ls) s q = go (eqb (get_or s.met l.entry 0) 0) refl q (scan_doubled (suc k) ls (kept k l s))
  where
    go : (b : Bool) → eqb (get_or s.met l.entry 0) 0 ≡ b → pick b (scan_lines (suc k) ls (kept k l s)) None ≡ None
        → (scan_lines (suc k) ls (kept k l s) ≡ None → Doubled (kept k l s).met ls) → Doubled s.met (l ∷ ls)
    go true e h next = doubled_before k l ls s (next h)
    go false e h next = doubled_now l ls s.met (eqb-false (get_or s.met l.entry 0) 0 e)

-- ---- each entry once
pub once_at : (n e k : ℕ) (ls : List Line) → once_each n e ls ≡ true → k < n → mentions (e + k) ls ≡ 1
unfolding once_each
once_at zero e k ls q h = absurd (omega arith)
once_at (suc n) e zero ls q h =
    let z : e + 0 ≡ e = omega arith in
    rw z (eqb-true (mentions e ls) 1 (both_true (eqb (mentions e ls) 1) (once_each n (suc e) ls) q).0)
once_at (suc n) e (suc k) ls q h =
    let z : e + suc k ≡ suc e + k = omega arith in
    rw z (once_at n (suc e) k ls (both_true (eqb (mentions e ls) 1) (once_each n (suc e) ls) q).1 (omega arith))

pub once_is : (m : List ℕ) (n e : ℕ) (ls : List Line) → length m ≡ n → ((k : ℕ) → k < n → get_or m k 0 ≡ mentions (e + k) ls) → once_each n e ls ≡ all_met m
unfolding once_each every
once_is [] zero e ls h f = refl
once_is [] (suc n) e ls h f = absurd (omega arith)
once_is (x ∷ m) zero e ls h f = absurd (omega arith)
once_is (x ∷ m) (suc n) e ls h f =
    let z : e + 0 ≡ e = omega arith in
    let first : x ≡ mentions e ls = rw z at (f 0 (omega arith)) in
    let next = once_is m n (suc e) ls (omega arith) (λ k i. let w : suc e + k ≡ e + suc k = omega arith in rw w (f (suc k) (omega arith))) in
    rw (← first, next) (pick_and (eqb x 1) (all_met m))
  where
    pick_and : (a b : Bool) → (a && b) ≡ pick a b false
    pick_and true b = refl
    pick_and false b = refl
