-- Laws of the choice: what is written has what every mode tried has, fits where SKIP fits, and costs no more than any mode that fits.
-- Assumes nothing.
use Rattle.std.specs.Prelude.{◌≡◌, Bool, ◌&&◌, ◌||◌, ℕ, suc, ◌+◌, ◌≤◌, eqb, ltb}
use Rattle.std.proofs.Math.Path.{refl}
use Rattle.std.proofs.Math.Bool.{true, false}
use mathlib.Core.List.{List, [], ◌∷◌}
use Rattle.std.proofs.Common.{arith, le_of_eq, le_of_lt, le_trans, ltb-true, ltb-false, eqb-true}
use Rattle.std.proofs.Math.Nat.{le_refl}
use Rattle.bits.specs.Basics.{pick, All, passing}
use Rattle.bits.specs.ListLaws.{all_any, all_passing, passing_pass}
use Rattle.mv_cache.specs.Neighbours.{Near}
use Rattle.tree.specs.Plan.{cost}
use Rattle.macroblock.specs.Macroblock.{Given, Choice, skipped}
use Rattle.macroblock.specs.Limit.{Limit, unlimited, within, can_skip_rest}
use Rattle.macroblock.specs.Choice.{Task, tried, fitting_in, fitting, weight_of, beats, best_of, best_from, chosen}

module _ (g : Given) (t : Task) where
  -- ---- what every mode has
  pick_one : (P : Choice → Type 0) (q : Bool) (c d : Choice) → P c → P d → P (pick q d c)
  pick_one P true c d hc hd = hd
  pick_one P false c d hc hd = hc

  pub best_one : (P : Choice → Type 0) (k : ℕ) (n : Near) (c : Choice) (ds : List Choice) → P c → All P ds → P (best_of g t k n c ds)
  unfolding best_of
  best_one P k n c [] hc hr = hc
  best_one P k n c (d ∷ ds) hc hr =
      best_one P k n (pick (beats g t k n d c) d c) ds (pick_one P (beats g t k n d c) c d hc hr.0) hr.1

  -- of those that fit, SKIP for none
  from_one : (P : Choice → Type 0) (k : ℕ) (n : Near) (cs : List Choice) → P skipped → All P cs → P (best_from g t k n cs)
  from_one P k n [] hs h = hs
  from_one P k n (c ∷ cs) hs h = best_one P k n c cs h.0 h.1

  pub all_fitting : (P : Choice → Type 0) (k : ℕ) (n : Near) (spent : ℕ) (l : Limit) → All P (tried g t k n) → All P (fitting_in l g t k n spent)
  all_fitting P k n spent unlimited h = h
  all_fitting P k n spent (within b) h = all_passing P _ (tried g t k n) h

  pub chosen_one : (P : Choice → Type 0) (k : ℕ) (n : Near) (spent : ℕ) → All P (tried g t k n) → P (chosen g t k n spent)
  unfolding chosen fitting tried
  chosen_one P k n spent h = from_one P k n (fitting g t k n spent) h.0 (all_fitting P k n spent t.limit h)

  -- ---- what fits
  -- after this mode the rest can be skipped
  abbrev pub FitsLimit : ℕ → Near → ℕ → Choice → Type 0
  FitsLimit k n spent c = can_skip_rest t.limit g (suc k) (spent + (weight_of g t k n c).bits) ≡ true

  all_hold : (k : ℕ) (n : Near) (spent : ℕ) (l : Limit) → All (λ c. can_skip_rest l g (suc k) (spent + (weight_of g t k n c).bits) ≡ true) (fitting_in l g t k n spent)
  all_hold k n spent unlimited = all_any (λ c. true ≡ true) (tried g t k n) (λ c. refl)
  all_hold k n spent (within b) = passing_pass _ (tried g t k n)

  pub chosen-fits : (k : ℕ) (n : Near) (spent : ℕ) → FitsLimit k n spent skipped → FitsLimit k n spent (chosen g t k n spent)
  unfolding chosen fitting
  chosen-fits k n spent h = from_one (FitsLimit k n spent) k n (fitting g t k n spent) h (all_hold k n spent t.limit)

  -- SKIP is among those that fit, where it fits
  pub skip_first : (P : Choice → Type 0) (k : ℕ) (n : Near) (spent : ℕ) (l : Limit) → can_skip_rest l g (suc k) (spent + (weight_of g t k n skipped).bits) ≡ true → All P (fitting_in l g t k n spent) → P skipped
  unfolding tried passing
  skip_first P k n spent unlimited e h = h.0
  skip_first P k n spent (within b) e h = (rw e at h).0

  -- ---- what costs least
  abbrev pub choice_cost : ℕ → Near → Choice → ℕ
  choice_cost k n c = cost t.settings.lambda (weight_of g t k n c)

  beats_is : (a b : ℕ) (p : Bool) (q : Bool) → ltb a b || (eqb a b && p) ≡ q → (q ≡ true → a ≤ b) × (q ≡ false → b ≤ a)
  beats_is a b p q e = go (ltb a b) (eqb a b) refl refl e
    where
      go : (l s : Bool) → ltb a b ≡ l → eqb a b ≡ s → l || (s && p) ≡ q → (q ≡ true → a ≤ b) × (q ≡ false → b ≤ a)
      go true s el es e = ((λ h. le_of_lt (ltb-true a b el)), (λ h. let z : ◌≡◌ {A = ℕ} 0 1 = cc in absurd (omega arith)))
      go false true el es e = ((λ h. le_of_eq (eqb-true a b es)), (λ h. ltb-false a b el))
      go false false el es e = ((λ h. let z : ◌≡◌ {A = ℕ} 0 1 = cc in absurd (omega arith)), (λ h. ltb-false a b el))

  prefer_least : (k : ℕ) (n : Near) (c d : Choice) (q : Bool) → beats g t k n d c ≡ q
      → (choice_cost k n (pick q d c) ≤ choice_cost k n c) × (choice_cost k n (pick q d c) ≤ choice_cost k n d)
  unfolding beats
  prefer_least k n c d q e =
      let two = beats_is (choice_cost k n d) (choice_cost k n c) (ltb (weight_of g t k n d).bits (weight_of g t k n c).bits) q e in
      go q two
    where
      go : (q : Bool) → (q ≡ true → choice_cost k n d ≤ choice_cost k n c) × (q ≡ false → choice_cost k n c ≤ choice_cost k n d)
          → (choice_cost k n (pick q d c) ≤ choice_cost k n c) × (choice_cost k n (pick q d c) ≤ choice_cost k n d)
      go true h = (h.0 refl, le_refl (choice_cost k n d))
      go false h = (le_refl (choice_cost k n c), h.1 refl)

  best_least : (k : ℕ) (n : Near) (c : Choice) (ds : List Choice)
      → (choice_cost k n (best_of g t k n c ds) ≤ choice_cost k n c) × All (λ d. choice_cost k n (best_of g t k n c ds) ≤ choice_cost k n d) ds
  unfolding best_of
  best_least k n c [] = (le_refl (choice_cost k n c), tt)
  best_least k n c (d ∷ ds) =
      let two = prefer_least k n c d (beats g t k n d c) refl in
      let rest = best_least k n (pick (beats g t k n d c) d c) ds in
      (le_trans rest.0 two.0, (le_trans rest.0 two.1, rest.1))

  from_least : (k : ℕ) (n : Near) (cs : List Choice) → All (λ d. choice_cost k n (best_from g t k n cs) ≤ choice_cost k n d) cs
  from_least k n [] = tt
  from_least k n (c ∷ cs) = best_least k n c cs

  pub chosen-cost : (k : ℕ) (n : Near) (spent : ℕ) → All (λ d. choice_cost k n (chosen g t k n spent) ≤ choice_cost k n d) (fitting g t k n spent)
  unfolding chosen
  chosen-cost k n spent = from_least k n (fitting g t k n spent)

-- ---- without a limit every mode tried fits
pub all_fit : (g : Given) (t : Task) (k : ℕ) (n : Near) (spent : ℕ) → t.limit ≡ unlimited → fitting g t k n spent ≡ tried g t k n
unfolding fitting
all_fit g t k n spent e = rw e
