-- Laws of a sum of rows against the best found so far: what it takes, and a turn of the loop that makes it.
-- Assumes nothing.
use Prim.Native.Nat.{ℕ, zero, suc, ◌+◌, ◌-◌, ◌<◌, ◌≤◌}
use Rattle.std.specs.Prelude.{◌≡◌, Bool, true, false, leb, ltb}
use Rattle.std.proofs.Math.Path.{refl, ap}
use Rattle.std.proofs.Common.{sym, ◌∙◌, le-leb, leb-true, ltb-false}
use Rattle.std.proofs.Math.Option.{Option, none, some}
use native.Mathlib.Omega.{arith}
use Rattle.std.proofs.Math.Numerals.{add-one}
use Rattle.std.proofs.Math.Decide.{dec_lt}
use Rattle.std.proofs.lemmas.Bool.{lt-leb}
use Rattle.bits.specs.Basics.{pick, sum}
use Rattle.compensation.specs.declared.svq1_enc_inter.inner.VectorSum.{VectorSum}
use Rattle.compensation.specs.Error.{beaten, sum_rows, RowsTaken}
use Rattle.compensation.specs.RowForms.{no_best, best_or_none}
use Rattle.bits.specs.SumLaws.{sum_le}

-- ---- beaten
not_both : (t : Bool) → t ≡ true → t ≡ false → ⊥
not_both t p q = let z : ◌≡◌ {A = ℕ} 0 1 = cc in omega arith

-- what is beaten stays so
beaten_more : (best : Option ℕ) (s t : ℕ) → s ≤ t → beaten best s ≡ true → beaten best t ≡ true
beaten_more none s t h e = e
beaten_more (some b) s t h e = let k : b ≤ s = leb-true b s e in le-leb b t (omega arith)

-- of a sum below `no_best` the plain comparison is the rule's test
pub beaten_from : (b s : ℕ) → s < no_best → beaten (best_or_none b) s ≡ leb b s
beaten_from b s h = go (ltb b no_best) refl
  where
    go : (t : Bool) → ltb b no_best ≡ t → beaten (pick t (some b) none) s ≡ leb b s
    go true e = refl
    go false e = let k : no_best ≤ b = ltb-false b no_best e in sym (lt-leb b s (omega arith))

module _ (f : ℕ → ℕ) (best : Option ℕ) where
  -- ---- one row
  rows_none : (n i s : ℕ) → n ≡ 0 → sum_rows f best n i s ≡ record { sum = s; rows = i }
  unfolding sum_rows
  rows_none n i s e = rw e refl

  rows_stop : (n i s : ℕ) → 0 < n → beaten best (s + f i) ≡ true → sum_rows f best n i s ≡ record { sum = s + f i; rows = i + 1 }
  unfolding sum_rows
  rows_stop zero i s h k = absurd (omega arith)
  rows_stop (suc n) i s h k = simp k

  rows_go : (n i s : ℕ) → 0 < n → beaten best (s + f i) ≡ false → sum_rows f best n i s ≡ sum_rows f best (n - 1) (i + 1) (s + f i)
  unfolding sum_rows
  rows_go zero i s h k = absurd (omega arith)
  rows_go (suc n) i s h k = let e : suc n - 1 ≡ n = omega arith in rw e (simp k)

  -- ---- what is taken
  abbrev NotBefore : ℕ → Type 0
  NotBefore i = (k : ℕ) → 1 ≤ k → k < i + 1 → beaten best (sum f k) ≡ false

  taken_from : (n i s : ℕ) → s ≡ sum f i → NotBefore i → RowsTaken f best (i + n) (sum_rows f best n i s)
  unfolding sum_rows sum
  taken_from zero i s e before =
      let z : i + 0 ≡ i = omega arith in
      rw z
      (record {
        sum_of_rows = e;
        at_least_one = λ h. h;
        at_most_all = omega arith;
        not_before = λ k a b. before k a (omega arith);
        beaten_there = λ h. absurd (omega arith);
        as_whole = ap (beaten best) e;
        whole = λ q. rw e refl;
      })
  taken_from (suc n) i s e before = go (beaten best (s + f i)) refl (taken_from n (i + 1) (s + f i) next)
    where
      next : s + f i ≡ sum f (i + 1)
      next = rw add-one (ap (λ (k : ℕ). k + f i) e)

      shift : i + suc n ≡ i + 1 + n
      shift = omega arith

      go : (t : Bool) → beaten best (s + f i) ≡ t → (NotBefore (i + 1) → RowsTaken f best (i + 1 + n) (sum_rows f best n (i + 1) (s + f i)))
          → RowsTaken f best (i + suc n) (pick t (record { sum = s + f i; rows = i + 1 }) (sum_rows f best n (i + 1) (s + f i)))
      go true q r =
          let l = sum_le f (i + 1) n in
          let w : beaten best (sum f (i + 1 + n)) ≡ true = beaten_more best (s + f i) (sum f (i + 1 + n)) (omega (arith, next)) q in
          rw shift
          (record {
            sum_of_rows = next;
            at_least_one = λ h. omega arith;
            at_most_all = omega arith;
            not_before = before;
            beaten_there = λ h. q;
            as_whole = q ∙ sym w;
            whole = λ h. absurd (not_both _ q h);
          })
      go false q r = rw shift (r (λ k a b. by k a b (dec_lt k (i + 1))))
        where
          by : (k : ℕ) → 1 ≤ k → k < i + 1 + 1 → Dec (k < i + 1) → beaten best (sum f k) ≡ false
          by k a b (yes l) = before k a l
          by k a b (no l) = let h : k ≡ i + 1 = omega arith in rw (h, sym next) q

  pub rows_taken : (n : ℕ) → RowsTaken f best n (sum_rows f best n 0 0)
  unfolding sum
  rows_taken n = let z : 0 + n ≡ n = omega arith in rw z at (taken_from n 0 0 refl (λ k a b. absurd (omega arith)))

-- over rows that are the same
pub rows_same : (f g : ℕ → ℕ) (best : Option ℕ) (n i s : ℕ) → ((k : ℕ) → k < i + n → f k ≡ g k) → sum_rows f best n i s ≡ sum_rows g best n i s
unfolding sum_rows
rows_same f g best zero i s h = refl
rows_same f g best (suc n) i s h =
    let e : f i ≡ g i = h i (omega arith) in
    rw e
    (ap (λ (r : VectorSum). pick (beaten best (s + g i)) (record { sum = s + g i; rows = i + 1 }) r)
    (rows_same f g best n (i + 1) (s + g i) (λ k q. h k (omega arith))))

-- ---- a turn of the loop: what is left of the rows gives the whole answer w
pub begin : (f : ℕ → ℕ) (best : Option ℕ) (n : ℕ) → sum_rows f best (n - 0) 0 0 ≡ sum_rows f best n 0 0
begin f best n = let e : n - 0 ≡ n = omega arith in rw e

module _ (f : ℕ → ℕ) (b n i s : ℕ) (w : VectorSum) (left : sum_rows f (best_or_none b) (n - i) i s ≡ w) where
  module _ (v : ℕ) (row : v ≡ f i) (more : i < n) (small : s + v < no_best) where
    here : beaten (best_or_none b) (s + f i) ≡ leb b (s + v)
    here = rw (sym row) (beaten_from b (s + v) small)

    pub turn : s + v < b → sum_rows f (best_or_none b) (n - (i + 1)) (i + 1) (s + v) ≡ w
    turn k =
        let e : n - (i + 1) ≡ n - i - 1 = omega arith in
        rw (e, row) (sym (rows_go f (best_or_none b) (n - i) i s (omega arith) (here ∙ lt-leb b (s + v) k)) ∙ left)

    pub stop : b ≤ s + v → record { sum = s + v; rows = i + 1 } ≡ w
    stop k = rw row (sym (rows_stop f (best_or_none b) (n - i) i s (omega arith) (here ∙ le-leb b (s + v) k)) ∙ left)

  pub end : n ≤ i → record { sum = s; rows = i } ≡ w
  end h = sym (rows_none f (best_or_none b) (n - i) i s (omega arith)) ∙ left
