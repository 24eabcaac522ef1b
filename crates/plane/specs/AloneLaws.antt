-- Where every first choice fits, a plane under a limit is the plane without it.
-- Assumes nothing.
use Rattle.std.specs.Prelude.{◌≡◌, Bool, true, false, List}
use Rattle.std.proofs.Math.Path.{refl, ap}
use Rattle.std.proofs.Common.{◌∙◌, arith, le_refl}
use Prim.Native.Nat.{ℕ, zero, suc, ◌+◌, ◌≤◌, ◌<◌}
use Rattle.bits.specs.Basics.{pick}
use Rattle.macroblock.specs.Macroblock.{Given}
use Rattle.macroblock.specs.Limit.{can_skip_rest}
use Rattle.macroblock.specs.Choice.{Task, without_limit, weight_of}
use Rattle.macroblock.specs.LimitLaws.{skip_fits, first_fits}
use Rattle.macroblock.specs.Slices.{Slices, near}
use Rattle.plane.specs.Run.{Step, on, stop, End, go_on, run, after}
use Rattle.plane.specs.RunLaws.{run_stands}
use Rattle.plane.specs.Plane.{count, Writing, wrote, step_stated, fits, written, to_write, write_step, write_plane, writing_at, FirstFits}

-- ---- two runs whose steps agree as far as one goes
past_one : {S : Type 0} (x : Step S) (f : S → End S) (k : ℕ) (s : S) → ((v : S) → suc k ≤ (f v).done) → k ≤ (go_on x f k s).done
past_one (on v) f k s h = let l = h v in omega arith
past_one (stop c) f k s h = le_refl k

pub past : {S : Type 0} (f : ℕ → S → Step S) (n k : ℕ) (s : S) → k ≤ (run f n k s).done
unfolding run
past f zero k s = le_refl k
past f (suc n) k s = past_one (f k s) (run f n (suc k)) k s (λ v. past f n (suc k) v)

-- f goes through the states u; where e does the same in each of them, as far as f goes, it is the same run
same_one : {S : Type 0} (x y : Step S) (f e : S → End S) (k : ℕ) (s : S) → x ≡ y → ((v : S) → y ≡ on v → e v ≡ f v) → go_on x e k s ≡ go_on y f k s
same_one x (on v) f e k s h r = rw h (r v refl)
same_one x (stop c) f e k s h r = rw h

on_done : {S : Type 0} (x : Step S) (f : S → End S) (k : ℕ) (s v : S) → x ≡ on v → (go_on x f k s).done ≡ (f v).done
on_done x f k s v h = rw h

pub same-run : {S : Type 0} (f e : ℕ → S → Step S) (u : ℕ → S) → ((j : ℕ) (v : S) → f j (u j) ≡ on v → v ≡ u (suc j)) → (n k : ℕ)
    → ((j : ℕ) → k ≤ j → j < k + n → j ≤ (run f n k (u k)).done → e j (u j) ≡ f j (u j)) → run e n k (u k) ≡ run f n k (u k)
unfolding run
same-run f e u to zero k h = refl
same-run f e u to (suc n) k h =
    same_one (e k (u k)) (f k (u k)) (run f n (suc k)) (run e n (suc k)) k (u k) (h k (le_refl k) (omega arith) (past f (suc n) k (u k)))
    (λ v o.
    let w = to k v o in
    rw w (same-run f e u to n (suc k) (λ j l m d.
    let q = on_done (f k (u k)) (run f n (suc k)) k (u k) v o in
    let z : (run f n (suc k) v).done ≡ (run f n (suc k) (u (suc k))).done = ap (λ (x : _). (run f n (suc k) x).done) w in
    h j (omega arith) (omega arith) (rw (q, z) d))))

-- ---- a plane
module _ (g : Given) (t : Task) (enough : can_skip_rest t.limit g 0 0 ≡ true) (out : List ℕ) (start : ℕ) (a : Slices) (h : FirstFits g t out start a) where
  abbrev F : ℕ → Writing
  F = writing_at g (without_limit t) out start a

  abbrev alone : End Writing
  alone = write_plane g (without_limit t) out start a

  pub alone_most : alone.done ≤ count g
  unfolding write_plane after
  alone_most = omega (arith, (run_stands 22 (fits g (without_limit t)) (written g (without_limit t)) (to_write out start a) (count g) 0).at_most)

  skip_rest_alone : (k : ℕ) → k ≤ count g → k ≤ alone.done → can_skip_rest t.limit g k (F k).bits ≡ true
  unfolding after written
  skip_rest_alone zero l d = enough
  skip_rest_alone (suc k) l d = h k l (omega arith)

  first_alone : (k : ℕ) → k < count g → k ≤ alone.done → wrote g t k (F k) ≡ wrote g (without_limit t) k (F k)
  unfolding weight_of
  first_alone k l d =
      let n = near g (F k).slices k in
      first_fits g t k n (F k).bits (skip_fits g t k n (F k).bits l (skip_rest_alone k (omega arith) d)) (h k l d)

  written_alone : (k : ℕ) → k < count g → k ≤ alone.done → written g t k (F k) ≡ written g (without_limit t) k (F k)
  unfolding written weight_of
  written_alone k l d = rw (first_alone k l d)

  one_step : (k : ℕ) → k < count g → k ≤ alone.done → write_step g t k (F k) ≡ write_step g (without_limit t) k (F k)
  unfolding written weight_of
  one_step k l d = rw (first_alone k l d)

  goes : (q : Bool) (x v : Writing) → pick q (on x) (stop 22) ≡ on v → v ≡ x
  goes true x v e = cc
  goes false x v e = let z : ◌≡◌ {A = ℕ} 0 1 = cc in absurd (omega arith)

  pub as_alone : write_plane g t out start a ≡ alone
  unfolding write_plane after
  as_alone =
      same-run (write_step g (without_limit t)) (write_step g t) F (λ j v o. goes (fits g (without_limit t) j (F j)) (written g (without_limit t) j (F j)) v o) (count g) 0
      (λ j l m d. one_step j (omega arith) d)

  -- so are the states that it goes through, and what it writes and states in them
  pub states_alone : (k : ℕ) → k ≤ count g → k ≤ alone.done → writing_at g t out start a k ≡ F k
  unfolding after
  states_alone zero l d = refl
  states_alone (suc k) l d = ap (written g t k) (states_alone k (omega arith) (omega arith)) ∙ written_alone k l (omega arith)

  pub wrote_alone : (k : ℕ) → k < count g → k ≤ alone.done → wrote g t k (writing_at g t out start a k) ≡ wrote g (without_limit t) k (F k)
  wrote_alone k l d = ap (wrote g t k) (states_alone k (omega arith) d) ∙ first_alone k l d

  pub stated_step_alone : (k : ℕ) → k < alone.done → step_stated g t k (writing_at g t out start a k) ≡ step_stated g (without_limit t) k (F k)
  unfolding weight_of
  stated_step_alone k l =
      let m : k < count g = omega (arith, alone_most) in
      ap (step_stated g t k) (states_alone k (omega arith) (omega arith)) ∙ rw (first_alone k m (omega arith))
