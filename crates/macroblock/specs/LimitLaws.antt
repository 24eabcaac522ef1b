-- Laws of the choice under a limit: where a SKIP code is left for each macroblock from k on, SKIP fits; and where the choice without a limit fits, it is the choice.
-- Assumes nothing.
use Rattle.std.specs.Prelude.{◌≡◌, Bool, ◌&&◌, ◌||◌, ◌⊎◌, ℕ, suc, ◌+◌, ◌-◌, ◌*◌, ◌≤◌, ◌<◌, eqb, ltb, length}
use Rattle.std.proofs.Math.Path.{refl, ap}
use Rattle.std.proofs.Common.{sym, ◌∙◌, true≢false, inl, inr, ⊎_elim, arith, mul-suc, ltb-true, ltb-false, eqb-true, lt-ltb, eq-eqb, leb-true, le-leb}
use Rattle.std.proofs.Math.Bool.{true, false}
use mathlib.Core.List.{List, [], ◌∷◌, map}
use Rattle.std.proofs.lemmas.Bool.{eqb-false}
use Rattle.bits.specs.Basics.{pick, passing}
use Rattle.bits.specs.BasicsLaws.{is_false, either_right}
use Rattle.mv_cache.specs.Neighbours.{Near}
use Rattle.tree.specs.Plan.{cost}
use Rattle.tree.specs.TreeBits.{plan_tree}
use Rattle.macroblock.specs.declared.svq1_enc_inter.Svq1MbMode.TheVariants.{Skip}
use Rattle.macroblock.specs.Macroblock.{Given, cols, rows, Choice, skipped, coded, mode_bits, choice_bits}
use Rattle.macroblock.specs.Limit.{Limit, unlimited, within, can_skip_rest}
use Rattle.macroblock.specs.Choice.{Task, without_limit, single_tried, four_tried, motions_tried, planning_for, tried, fitting_in, fitting, weight_of, beats, best_of, best_from, chosen}

-- ---- SKIP
pub skip_stays : (g : Given) (k spent : ℕ) (l : Limit) → k < rows g * cols g → can_skip_rest l g k spent ≡ true → can_skip_rest l g (suc k) (spent + length (mode_bits g Skip)) ≡ true
skip_stays g k spent unlimited h e = refl
skip_stays g k spent (within b) h e =
    let q : rows g * cols g - k + b.behind ≡ suc (rows g * cols g - suc k + b.behind) = omega arith in
    let s = rw (q, mul-suc) at (leb-true _ b.allowance e) in
    le-leb _ b.allowance (omega arith)

pub skip_fits : (g : Given) (t : Task) (k : ℕ) (n : Near) (spent : ℕ) → k < rows g * cols g → can_skip_rest t.limit g k spent ≡ true
    → can_skip_rest t.limit g (suc k) (spent + (weight_of g t k n skipped).bits) ≡ true
unfolding weight_of choice_bits
skip_fits g t k n spent h e = skip_stays g k spent t.limit h e

-- ---- less cost, or the same with fewer bits
abbrev less : ℕ → ℕ → ℕ → ℕ → Bool
less x p y q = ltb x y || (eqb x y && ltb p q)

less_yes : (x p y q : ℕ) → less x p y q ≡ true → (x < y) ⊎ ((x ≡ y) × (p < q))
less_yes x p y q e = go (ltb x y) (eqb x y) (ltb p q) refl refl refl e
  where
    go : (l s b : Bool) → ltb x y ≡ l → eqb x y ≡ s → ltb p q ≡ b → l || (s && b) ≡ true → (x < y) ⊎ ((x ≡ y) × (p < q))
    go true s b el es eb e = inl (ltb-true x y el)
    go false true true el es eb e = inr (eqb-true x y es, ltb-true p q eb)
    go false true false el es eb e = absurd (true≢false (sym e))
    go false false b el es eb e = absurd (true≢false (sym e))

less-cost : (x p y q : ℕ) → x < y → less x p y q ≡ true
less-cost x p y q h = rw (lt-ltb x y h)

less_bits : (x p y q : ℕ) → x ≡ y → p < q → less x p y q ≡ true
less_bits x p y q e h = rw (eq-eqb x y e, lt-ltb p q h) (either_right (ltb x y))

less_no : (x p y q : ℕ) → less x p y q ≡ false → (y ≤ x) × (x ≡ y → q ≤ p)
less_no x p y q e = go (ltb x y) (ltb p q) refl refl
  where
    go : (l b : Bool) → ltb x y ≡ l → ltb p q ≡ b → (y ≤ x) × (x ≡ y → q ≤ p)
    go true b el eb = absurd (true≢false (sym (less-cost x p y q (ltb-true x y el)) ∙ e))
    go false true el eb = (ltb-false x y el, λ s. absurd (true≢false (sym (less_bits x p y q s (ltb-true p q eb)) ∙ e)))
    go false false el eb = (ltb-false x y el, λ s. ltb-false p q eb)

-- of two, not both are less
less_once : (x p y q : ℕ) → less x p y q ≡ true → less y q x p ≡ false
less_once x p y q e = is_false (less y q x p) λ f.
    ⊎_elim (λ a. ⊎_elim (λ b. omega arith) (λ b. omega arith) (less_yes y q x p f)) (λ a. ⊎_elim (λ b. omega arith) (λ b. omega arith) (less_yes y q x p f)) (less_yes x p y q e)

-- what is less than one that a third is not less than, is less than the third
strictly : (x z : ℕ) → (x ≡ z → ⊥) → x ≤ z → x < z
strictly x z d l = omega arith

level : (x p y q z r : ℕ) (s : Bool) → eqb x z ≡ s → (y ≤ z) × (z ≡ y → q ≤ r) → (x ≡ y) × (p < q) → less x p z r ≡ true
level x p y q z r true es w a =
    let s = eqb-true x z es in
    let b : q ≤ r = w.1 (sym s ∙ a.0) in
    less_bits x p z r s (omega arith)
level x p y q z r false es w a = less-cost x p z r (strictly x z (eqb-false x z es) (omega arith))

less_through : (x p y q z r : ℕ) → less x p y q ≡ true → less z r y q ≡ false → less x p z r ≡ true
less_through x p y q z r e f =
    let w = less_no z r y q f in
    ⊎_elim (λ a. less-cost x p z r (omega arith)) (λ a. level x p y q z r (eqb x z) refl w a) (less_yes x p y q e)

module _ (g : Given) (t : Task) (k : ℕ) (n : Near) where
  abbrev costs : Choice → ℕ
  costs c = cost t.settings.lambda (weight_of g t k n c)

  abbrev weighs : Choice → ℕ
  weighs c = (weight_of g t k n c).bits

  once : (d c : Choice) → beats g t k n d c ≡ true → beats g t k n c d ≡ false
  unfolding beats
  once d c e = less_once (costs d) (weighs d) (costs c) (weighs c) e

  through : (e b a : Choice) → beats g t k n e b ≡ true → beats g t k n a b ≡ false → beats g t k n e a ≡ true
  unfolding beats
  through e b a p q = less_through (costs e) (weighs e) (costs b) (weighs b) (costs a) (weighs a) p q

  abbrev best : Choice → List Choice → Choice
  best = best_of g t k n

  module _ (ok : Choice → Bool) where
    -- b fails the test and what is found behind it passes: the same is found behind any a that does not beat b
    behind_one : (a b d : Choice) (ds : List Choice) (p q : Bool) → beats g t k n d b ≡ p → beats g t k n d a ≡ q → beats g t k n a b ≡ false → ok (best (pick p d b) ds) ≡ true
        → (beats g t k n d b ≡ false → ok (best b ds) ≡ true → best d ds ≡ best b ds) → (ok (best b ds) ≡ true → best a ds ≡ best b ds)
        → best (pick q d a) ds ≡ best (pick p d b) ds
    behind_one a b d ds true true ep eq h f r s = refl
    behind_one a b d ds true false ep eq h f r s = absurd (true≢false (sym (through d b a ep h) ∙ eq))
    behind_one a b d ds false true ep eq h f r s = r ep f
    behind_one a b d ds false false ep eq h f r s = s f

    behind : (a b : Choice) (ds : List Choice) → beats g t k n a b ≡ false → ok b ≡ false → ok (best b ds) ≡ true → best a ds ≡ best b ds
    unfolding best_of
    behind a b [] h o f = absurd (true≢false (sym f ∙ o))
    behind a b (d ∷ ds) h o f = behind_one a b d ds (beats g t k n d b) (beats g t k n d a) refl refl h f (λ e i. behind d b ds e o i) (λ i. behind a b ds h o i)

    -- what is found among all, if it passes, is found among those that pass
    found_one : (c d : Choice) (ds : List Choice) (o q : Bool) → ok d ≡ o → beats g t k n d c ≡ q → ok (best (pick q d c) ds) ≡ true
        → ((x : Choice) → ok (best x ds) ≡ true → best x (passing ok ds) ≡ best x ds)
        → best c (pick o (d ∷ passing ok ds) (passing ok ds)) ≡ best (pick q d c) ds
    unfolding best_of
    found_one c d ds true q eo eq f r = ap (λ (x : Bool). best (pick x d c) (passing ok ds)) eq ∙ r (pick q d c) f
    found_one c d ds false false eo eq f r = r c f
    found_one c d ds false true eo eq f r =
        let same = behind c d ds (once d c eq) eo f in
        r c (rw same f) ∙ same

    found : (c : Choice) (ds : List Choice) → ok (best c ds) ≡ true → best c (passing ok ds) ≡ best c ds
    unfolding best_of passing
    found c [] f = refl
    found c (d ∷ ds) f = found_one c d ds (ok d) (beats g t k n d c) refl refl f (λ x. found x ds)

  -- ---- without a limit the same modes are tried, and weigh the same
  best_unlimited : (c : Choice) (ds : List Choice) → best_of g (without_limit t) k n c ds ≡ best_of g t k n c ds
  unfolding best_of beats weight_of
  best_unlimited c [] = refl
  best_unlimited c (d ∷ ds) = best_unlimited (pick (beats g t k n d c) d c) ds

  abbrev others : List Choice
  others = map (λ m. coded m (plan_tree (planning_for g t k m))) (motions_tried g t k n)

  chosen_unlimited : (spent : ℕ) → chosen g (without_limit t) k n spent ≡ best_of g t k n skipped others
  unfolding chosen fitting tried motions_tried single_tried four_tried planning_for
  chosen_unlimited spent = best_unlimited skipped others

  first-within : (spent : ℕ) (l : Limit) → can_skip_rest l g (suc k) (spent + (weight_of g t k n skipped).bits) ≡ true
      → can_skip_rest l g (suc k) (spent + (weight_of g t k n (best_of g t k n skipped others)).bits) ≡ true
      → best_from g t k n (fitting_in l g t k n spent) ≡ best_of g t k n skipped others
  unfolding tried passing
  first-within spent unlimited e f = refl
  first-within spent (within b) e f = rw e (found (λ c. can_skip_rest (within b) g (suc k) (spent + (weight_of g t k n c).bits)) skipped others f)

  pub first_fits : (spent : ℕ) → can_skip_rest t.limit g (suc k) (spent + (weight_of g t k n skipped).bits) ≡ true
      → can_skip_rest t.limit g (suc k) (spent + (weight_of g t k n (chosen g (without_limit t) k n spent)).bits) ≡ true
      → chosen g t k n spent ≡ chosen g (without_limit t) k n spent
  unfolding chosen fitting
  first_fits spent e f = rw (chosen_unlimited spent) (first-within spent t.limit e (rw (chosen_unlimited spent) at f))
