-- Laws of the output of a plane that is written to its last macroblock: each macroblock's bits stand at its bit, in the output and in whatever begins as it does.
-- Assumes nothing.
use Rattle.std.specs.Prelude.{◌≡◌, true, take, drop}
use Rattle.std.proofs.Math.Path.{refl, sym, ap, ap₂}
use Rattle.std.proofs.Common.{◌∙◌, zero-add, add-suc, suc-add, le_refl, length-take, take-append-drop, take-take, take_at, leb-true}
use Prim.Native.Nat.{ℕ, zero, suc, ◌+◌, ◌-◌, ◌*◌, ◌%◌, ◌≤◌, ◌<◌}
use native.Mathlib.Omega.{arith}
use Rattle.std.proofs.Math.Nat.{add-zero}
use mathlib.Core.List.{List, [], ◌∷◌, ◌++◌, append_assoc}
use Rattle.std.proofs.Math.ListN.{length}
use Rattle.bits.specs.Bits.{bits_of, put_bits, after_bits}
use Rattle.bits.specs.BitsLaws.{put_nil, put_put, drop_put, length_bits_of}
use Rattle.tree.specs.Plan.{Weight}
use Rattle.macroblock.specs.Macroblock.{Given}
use Rattle.macroblock.specs.Choice.{Task, weight_of}
use Rattle.macroblock.specs.Slices.{Slices}
use Rattle.plane.specs.Run.{after}
use Rattle.plane.specs.RunLaws.{testing, run_on, run_fits}
use Rattle.plane.specs.Plane.{count, Writing, wrote_weight, wrote_bits, fits, written, to_write, write_plane}
use Rattle.plane.specs.PlaneLaws.{AppendsOnly, appends_to}
use Rattle.claim.specs.Claim.{Appended, state_at, final}

-- ---- two lists that begin alike
within : (a n m : ℕ) (l : List ℕ) → a + n ≤ m → take n (drop a (take m l)) ≡ take n (drop a l)
within zero n m l h = take-take n m l (omega arith)
within (suc a) n zero l h = absurd (omega arith)
within (suc a) n (suc m) [] h = refl
within (suc a) n (suc m) (x ∷ l) h = within a n m l (omega arith)

same-within : (a n m : ℕ) (x y : List ℕ) → a + n ≤ m → take m x ≡ take m y → take n (drop a x) ≡ take n (drop a y)
same-within a n m x y h e = sym (within a n m x h) ∙ ap (λ (l : List ℕ). take n (drop a l)) e ∙ within a n m y h

-- ---- the run
module _ (g : Given) (t : Task) (bits : List ℕ) (even : length bits % 8 ≡ 0) (start : ℕ) (a : Slices) (whole : (write_plane g t bits start a).refusal ≡ 0) where
  abbrev S : ℕ → Writing
  S = state_at g t bits start a

  abbrev weigh : ℕ → Weight
  weigh k = wrote_weight g t k (S k)

  abbrev E : Writing
  E = final g t bits start a

  abbrev bits_at : ℕ → List ℕ
  bits_at k = wrote_bits g t k (S k)

  stated : (k : ℕ) → (weigh k).bits ≡ length (bits_at k)
  unfolding weight_of
  stated k = refl

  fit : (k : ℕ) → k < count g → fits g t k (S k) ≡ true
  unfolding after write_plane
  fit k h = run_fits 21 (fits g t) (written g t) (to_write bits start a) (count g) 0 whole k (omega arith) (omega arith)

  room : (k : ℕ) → k < count g → (S k).next + (weigh k).bits ≤ length (S k).out
  room k h = leb-true ((S k).next + (weigh k).bits) (length (S k).out) (fit k h)

  pub reached : write_plane g t bits start a ≡ record { refusal = 0; done = count g; state = E }
  unfolding after write_plane
  reached =
      run_on (testing 22 (fits g t) (written g t)) S (count g) 0 (λ j q l. rw (fit j (omega arith)))
      ∙ ap (λ (i : ℕ). record { refusal = 0; done = i; state = S i }) (zero-add (count g))

  pub appended : (k : ℕ) → k < count g → Appended g t k (S k) (S (suc k))
  unfolding after written
  appended k h = record { stated = stated k; output = refl; next = refl; bits = refl; error = refl }

  -- ---- the output, from macroblock k on
  bits_from : ℕ → ℕ → List ℕ
  bits_from zero k = []
  bits_from (suc m) k = bits_at k ++ bits_from m (suc k)

  out_later : (m k : ℕ) → k + m ≤ count g → (S (k + m)).out ≡ put_bits (S k).out (S k).next (bits_from m k)
  unfolding bits_from
  out_later zero k h = rw add-zero (sym (put_nil (S k).out (S k).next))
  out_later (suc m) k h =
      let p = appended k (omega arith) in
      let nx : (S (suc k)).next ≡ (S k).next + length (bits_at k) = p.next ∙ ap (λ (i : ℕ). (S k).next + i) p.stated in
      let l : (S k).next ≤ length (S k).out = omega (arith, room k (omega arith)) in
      ap (λ (i : ℕ). (S i).out) (add-suc k m ∙ sym (suc-add k m))
      ∙ out_later m (suc k) (omega arith)
      ∙ ap₂ (λ (o : List ℕ) (i : ℕ). put_bits o i (bits_from m (suc k))) p.output nx
      ∙ put_put (S k).out (bits_at k) (bits_from m (suc k)) (S k).next l

  out_from : (k : ℕ) → k < count g → E.out ≡ put_bits (S k).out (S k).next (bits_at k ++ bits_from (count g - suc k) (suc k))
  unfolding bits_from
  out_from k h =
      let q : count g ≡ k + suc (count g - suc k) = omega arith in
      ap (λ (i : ℕ). (S i).out) q ∙ out_later (suc (count g - suc k)) k (omega arith)

  -- ---- each state only appends
  pub only_appends : (k : ℕ) → k ≤ count g → AppendsOnly bits start (S k)
  only_appends k h = appends_to g t bits even start a k (λ j l. fit j (omega arith))

  -- its bits lie in the output
  inside : (k : ℕ) → k < count g → (S k).next + (weigh k).bits ≤ length bits
  inside k h = rw (only_appends k (omega arith)).long at (room k h)

  later : (m k : ℕ) → (S k).next ≤ (S (k + m)).next
  unfolding after written
  later zero k = rw add-zero (le_refl (S k).next)
  later (suc m) k = rw (add-suc k m) (omega (arith, later m k))

  -- macroblock k's bits end where the next begins, and no later than the plane
  up_to : (k : ℕ) → k < count g → (S k).next + (weigh k).bits ≤ E.next
  unfolding after written
  up_to k h =
      let q : suc k + (count g - suc k) ≡ count g = omega arith in
      rw q at (later (count g - suc k) (suc k))

  ended : (n : ℕ) → 0 < n → n ≤ count g → (S n).next ≤ length bits
  unfolding after written
  ended zero h l = absurd (omega arith)
  ended (suc n) h l = inside n l

  pub same_length : (bytes : List ℕ) → bits_of bytes ≡ E.out → 8 * length bytes ≡ length bits
  same_length bytes e = omega (arith, length_bits_of bytes, ap length e, (only_appends (count g) (le_refl (count g))).long)

  -- macroblock k's bits stand at its bit, and something after them
  stands : (k : ℕ) → k < count g → (r : List ℕ) × (drop (S k).next E.out ≡ bits_at k ++ r)
  stands k h =
      let l : (S k).next ≤ length (S k).out = omega (arith, room k h) in
      let xs : List ℕ = bits_at k ++ bits_from (count g - suc k) (suc k) in
      (bits_from (count g - suc k) (suc k) ++ after_bits (S k).out (S k).next xs, rw (out_from k h) (drop_put (S k).out xs (S k).next l ∙ append_assoc (bits_at k) _ _))

  pub held : (k : ℕ) → k < count g → take (weigh k).bits (drop (S k).next E.out) ≡ bits_at k
  held k h =
      let here = stands k h in
      rw here.1 (take_at (bits_at k) here.0 (weigh k).bits (sym (stated k)))

  -- ---- bits that begin as the output does, up to its next bit
  module _ (xs : List ℕ) (alike : take E.next xs ≡ take E.next E.out) where
    pub held_in : (k : ℕ) → k < count g → take (weigh k).bits (drop (S k).next xs) ≡ bits_at k
    held_in k h = same-within (S k).next (weigh k).bits E.next xs E.out (up_to k h) alike ∙ held k h

    reaches : 0 < count g → E.next ≤ length xs
    reaches h =
        omega (arith, (only_appends (count g) (le_refl (count g))).long, ended (count g) h (le_refl (count g)), length-take E.next xs, length-take E.next E.out, ap length alike)

    pub stands_in : (k : ℕ) → k < count g → (r : List ℕ) × (drop (S k).next xs ≡ bits_at k ++ r) × ((S k).next ≤ length xs)
    stands_in k h = (
      drop (weigh k).bits (drop (S k).next xs),
      sym (take-append-drop (weigh k).bits (drop (S k).next xs)) ∙ rw (held_in k h),
      omega (arith, up_to k h, reaches (omega arith)),
    )
