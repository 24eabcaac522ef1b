-- Laws of a run: one whose steps all go on, one that stopped, and a loop's steps.
-- Assumes nothing.
use Rattle.std.specs.Prelude.{◌≡◌, refl, ℕ, zero, suc, ◌+◌, ◌-◌, ◌≤◌, ◌<◌, Bool, true, false}
use Rattle.std.proofs.Common.{sym, ◌∙◌, subst, arith, add-zero, add-suc, suc-add, add-one}
use Rattle.std.proofs.Math.Decide.{ℕ_discrete}
use Rattle.bits.specs.Basics.{pick}
use Rattle.plane.specs.Run.{Step, on, stop, End, go_on, run, after}

-- a step that is taken where a test holds
abbrev pub testing : {S : Type 0} → ℕ → (ℕ → S → Bool) → (ℕ → S → S) → ℕ → S → Step S
testing c fits g k s = pick (fits k s) (on (g k s)) (stop c)

-- a run whose steps all go on
pub run_on : {S : Type 0} (f : ℕ → S → Step S) (t : ℕ → S) (n k : ℕ) → ((j : ℕ) → k ≤ j → j < k + n → f j (t j) ≡ on (t (suc j)))
    → run f n k (t k) ≡ record { refusal = 0; done = k + n; state = t (k + n) }
unfolding run
run_on f t zero k h = rw add-zero
run_on f t (suc n) k h =
    rw (h k (omega arith) (omega arith), add-suc, ← suc-add) (run_on f t n (suc k) (λ j a l. h j (omega arith) (omega arith)))

one_on : {S : Type 0} (q : Bool) (c k : ℕ) (s u : S) (f : S → End S) → (go_on (pick q (on u) (stop (suc c))) f k s).refusal ≡ 0 → (q ≡ true) × ((f u).refusal ≡ 0)
one_on true c k s u f e = (refl, e)
one_on false c k s u f e = absurd (omega arith)

here_or : (P : ℕ → Type 0) (k j : ℕ) → P k → (suc k ≤ j → P j) → k ≤ j → Dec (k ≡ j) → P j
here_or P k j p f a (yes e) = subst P e p
here_or P k j p f a (no d) = f (omega arith)

-- a run that was not stopped took every step
pub run_fits : {S : Type 0} (c : ℕ) (fits : ℕ → S → Bool) (g : ℕ → S → S) (s : S) (n k : ℕ)
    → (run (testing (suc c) fits g) n k (after g s k)).refusal ≡ 0 → (j : ℕ) → k ≤ j → j < k + n → fits j (after g s j) ≡ true
unfolding run after
run_fits c fits g s zero k e j a l = absurd (omega arith)
run_fits c fits g s (suc n) k e j a l =
    let two = one_on (fits k (after g s k)) c k (after g s k) (g k (after g s k)) (run (testing (suc c) fits g) n (suc k)) e in
    here_or (λ i. fits i (after g s i) ≡ true) k j two.0 (λ m. run_fits c fits g s n (suc k) two.1 j m (omega arith)) a (ℕ_discrete k j)

-- ---- a loop's laws: with n macroblocks in all, a step taken, a step that stops, and the end
pub turned : {S : Type 0} (f : ℕ → S → Step S) (n k : ℕ) (s u : S) → k < n → f k s ≡ on u → run f (n - k) k s ≡ run f (n - suc k) (suc k) u
unfolding run
turned f n k s u h e =
    let q : n - k ≡ suc (n - suc k) = omega arith in
    rw (q, e)

pub stopped : {S : Type 0} (f : ℕ → S → Step S) (n k c : ℕ) (s : S) → k < n → f k s ≡ stop c → run f (n - k) k s ≡ record { refusal = c; done = k; state = s }
unfolding run
stopped f n k c s h e =
    let q : n - k ≡ suc (n - suc k) = omega arith in
    rw (q, e)

pub ended : {S : Type 0} (f : ℕ → S → Step S) (n k : ℕ) (s : S) → n ≤ k → run f (n - k) k s ≡ record { refusal = 0; done = k; state = s }
unfolding run
ended f n k s h =
    let q : n - k ≡ 0 = omega arith in
    rw q

-- a loop over n macroblocks on its way from the state s₀: before macroblock k, in the state s, what is left of the run gives the whole
pub record Midway {S : Type 0} (f : ℕ → S → Step S) (n : ℕ) (s₀ : S) (k : ℕ) (s : S) : Type 0 where
  pub most : k ≤ n
  pub whole : run f (n - k) k s ≡ run f n 0 s₀

pub set_out : {S : Type 0} (f : ℕ → S → Step S) (n : ℕ) (s₀ : S) → Midway f n s₀ 0 s₀
set_out f n s₀ =
    let z : n - 0 ≡ n = omega arith in
    record { most = omega arith; whole = rw z }

module _ {S : Type 0} (f : ℕ → S → Step S) (n : ℕ) (s₀ : S) (k : ℕ) (s : S) (m : Midway f n s₀ k s) where
  pub gone_on : (u : S) → k < n → f k s ≡ on u → Midway f n s₀ (k + 1) u
  gone_on u h e = record { most = omega arith; whole = rw (add-one k) (sym (turned f n k s u h e) ∙ m.whole) }

  pub ends_early : (c : ℕ) → k < n → f k s ≡ stop c → run f n 0 s₀ ≡ record { refusal = c; done = k; state = s }
  ends_early c h e = sym m.whole ∙ stopped f n k c s h e

  pub ends_last : n ≤ k → run f n 0 s₀ ≡ record { refusal = 0; done = k; state = s }
  ends_last h = sym m.whole ∙ ended f n k s h

-- ended early or not, the state is the one before the macroblock at which the run ended, and that one did not fit
pub record RunStands {S : Type 0} (c : ℕ) (fits : ℕ → S → Bool) (g : ℕ → S → S) (s : S) (last : ℕ) (u : End S) : Type 0 where
  pub state : u.state ≡ after g s u.done
  pub at_most : u.done ≤ last
  pub early : u.done < last → (u.refusal ≡ c) × (fits u.done (after g s u.done) ≡ false)

one_more : {S : Type 0} (q : Bool) (c : ℕ) (fits : ℕ → S → Bool) (g : ℕ → S → S) (s : S) (k last : ℕ) (f : S → End S) → fits k (after g s k) ≡ q → k < last
    → RunStands c fits g s last (f (g k (after g s k)))
    → RunStands c fits g s last (go_on (pick q (on (g k (after g s k))) (stop c)) f k (after g s k))
one_more true c fits g s k last f e h x = x
one_more false c fits g s k last f e h x = record { state = refl; at_most = omega arith; early = λ l. (refl, e) }

pub run_stands : {S : Type 0} (c : ℕ) (fits : ℕ → S → Bool) (g : ℕ → S → S) (s : S) (n k : ℕ)
    → RunStands c fits g s (k + n) (run (testing c fits g) n k (after g s k))
unfolding run after
run_stands c fits g s zero k = record { state = refl; at_most = omega arith; early = λ l. absurd (omega arith) }
run_stands c fits g s (suc n) k =
    one_more (fits k (after g s k)) c fits g s k (k + suc n) (run (testing c fits g) n (suc k)) refl (omega arith)
    (rw (add-suc, ← suc-add) (run_stands c fits g s n (suc k)))

-- what holds at first, and behind each step that is taken, holds at the end, early or not
held_one : {S : Type 0} (P : S → Type 0) (q : Bool) (c k : ℕ) (s u : S) (f : S → End S) → P s → (q ≡ true → P u) → (P u → P (f u).state) → P (go_on (pick q (on u) (stop c)) f k s).state
held_one P true c k s u f p h r = r (h refl)
held_one P false c k s u f p h r = p

pub run_holds : {S : Type 0} (c : ℕ) (fits : ℕ → S → Bool) (g : ℕ → S → S) (P : S → Type 0) → ((k : ℕ) (s : S) → P s → fits k s ≡ true → P (g k s))
    → (n k : ℕ) (s : S) → P s → P (run (testing c fits g) n k s).state
unfolding run
run_holds c fits g P h zero k s p = p
run_holds c fits g P h (suc n) k s p =
    held_one P (fits k s) c k s (g k s) (run (testing c fits g) n (suc k)) p (h k s p) (run_holds c fits g P h n (suc k) (g k s))
