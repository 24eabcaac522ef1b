-- Laws of the search's loops: what a clipped range leaves out changes nothing; the rows, the neighbours and the whole, step by step.
-- Assumes nothing.
use Rattle.std.specs.Prelude.{ℕ, zero, suc, ◌+◌, ◌-◌, ◌*◌, ◌/◌, ◌%◌, ◌<◌, ◌≤◌, ◌≡◌, List, Bool, true, false, ◌&&◌, leb, eqb, ℤ, ◌+ℤ◌}
use Rattle.std.proofs.Math.Path.{refl, ap}
use Rattle.std.proofs.Common.{sym, ◌∙◌, arith, leb-true, eq-eqb, ne_eqb, eqb-true}
use Rattle.std.proofs.Math.Numerals.{add-one}
use Rattle.std.proofs.Math.IntN.{sub_ℕ}
use Rattle.std.proofs.lemmas.Bool.{eqb-false}
use Rattle.bits.specs.BasicsLaws.{both_true, is_false}
use Rattle.vectors.specs.declared.svq1_motion_predictor.Svq1Mv.{Svq1Mv}
use Rattle.motion.specs.declared.svq1_enc_inter.inner.Spot.{Spot}
use Rattle.motion.specs.declared.svq1_enc_inter.inner.Candidate.{Candidate}
use Rattle.motion.specs.declared.svq1_enc_inter.inner.Span.{Span}
use Rattle.motion.specs.Search.{Search, Best, nothing, consider, row_to, rows_to, full_at, full_search, around_to, search_best}
use Rattle.motion.specs.CandidateForms.{lowered, lowered_mv, spot_search, codable_up, axis_up, best_so_far, BestHeld, full_up, Spans, Clipped, refined}
use Rattle.motion.specs.CandidateFormsLaws.{full_is, near_is, not_x, not_y, centre_is}

-- ---- steps that change nothing, over any of the scans: f after the first n steps of a scan
module _ (f : ℕ → Best) (idle : ℕ → Type 0) (step : (k : ℕ) → idle k → f (suc k) ≡ f k) where
  pub idle_start : (n : ℕ) → ((k : ℕ) → k < n → idle k) → f 0 ≡ f n
  idle_start zero h = refl
  idle_start (suc n) h = idle_start n (λ k q. h k (omega arith)) ∙ sym (step n (h n (omega arith)))

  idle_more : (m n : ℕ) → ((k : ℕ) → m ≤ k → k < m + n → idle k) → f m ≡ f (m + n)
  idle_more m zero h = let e : m + 0 ≡ m = omega arith in rw e refl
  idle_more m (suc n) h =
      let e : m + suc n ≡ suc (m + n) = omega arith in
      rw e (idle_more m n (λ k a b. h k a (omega arith)) ∙ sym (step (m + n) (h (m + n) (omega arith) (omega arith))))

  pub idle_end : (m n : ℕ) → m ≤ n → ((k : ℕ) → m ≤ k → k < n → idle k) → f m ≡ f n
  idle_end m n l h = let e : n ≡ m + (n - m) = omega arith in idle_more m (n - m) (λ k a b. h k a (omega arith)) ∙ rw (sym e) refl

-- ---- full samples
-- a number below the codable range, or above it, is not codable
too_low : (p u : ℕ) → (992 ≤ u → p ≤ u + 32 → ⊥) → codable_up p u ≡ false
too_low p u h =
    is_false _ (λ e.
    let a = both_true (leb 992 u && leb u 1055) _ e in
    h (leb-true _ _ (both_true (leb 992 u) _ a.0).0) (leb-true _ _ (both_true (leb p (u + 32)) _ a.1).0))

too_high : (p u : ℕ) → (u ≤ 1055 → u ≤ p + 31 → ⊥) → codable_up p u ≡ false
too_high p u h =
    is_false _ (λ e.
    let a = both_true (leb 992 u && leb u 1055) _ e in
    h (leb-true _ _ (both_true (leb 992 u) _ a.0).1) (leb-true _ _ (both_true (leb p (u + 32)) _ a.1).1))

-- a range clipped by the least and the greatest full sample that can be codable
pub spans : (p radius low high : ℕ) (s : Span) → radius ≤ 255 → 992 ≤ p → ((u : ℕ) → 992 ≤ 2 * u → p ≤ 2 * u + 32 → low ≤ u)
    → ((u : ℕ) → 2 * u ≤ 1055 → 2 * u ≤ p + 31 → u ≤ high) → Clipped radius low (p / 2) high s → Spans p radius s
spans p radius low high s hr hp l h c = record {
  first = c.first;
  some = c.some;
  last = c.last;
  before = λ k q. too_low p (full_up p radius k) (λ m n. let z = l (p / 2 + k - radius) m n in let w = c.before k q in omega arith);
  after = λ k q o. too_high p (full_up p radius k) (λ m n. let z = h (p / 2 + k - radius) m n in let w = c.after k q (omega arith) in omega arith);
}

module _ (t ref : List ℕ) (p : Spot) (small : p.radius ≤ 255) (px : 992 ≤ p.px) (py : 992 ≤ p.py) where
  abbrev g : Search
  g = spot_search t ref p

  x_is : (k : ℕ) → full_at g.predictor.x g.radius k ≡ lowered (full_up p.px p.radius k)
  unfolding spot_search
  x_is k = full_is p.px p.radius k (full_up p.px p.radius k) (omega arith)

  y_is : (k : ℕ) → full_at g.predictor.y g.radius k ≡ lowered (full_up p.py p.radius k)
  unfolding spot_search
  y_is k = full_is p.py p.radius k (full_up p.py p.radius k) (omega arith)

  -- one more of a row
  row_next : (y : ℤ) (f : Best) (k : ℕ) → row_to g y f (suc k) ≡ consider g (record { x = lowered (full_up p.px p.radius k); y = y }) (row_to g y f k)
  unfolding row_to
  row_next y f k = ap (λ (x : ℤ). consider g (record { x = x; y = y }) (row_to g y f k)) (x_is k)

  pub row_more : (uy : ℕ) (f : Best) (k : ℕ) (b r : Candidate) → best_so_far b ≡ row_to g (lowered uy) f k
      → best_so_far r ≡ consider g (lowered_mv (full_up p.px p.radius k) uy) (best_so_far b) → best_so_far r ≡ row_to g (lowered uy) f (k + 1)
  row_more uy f k b r e q =
      rw add-one (q ∙ ap (consider g (lowered_mv (full_up p.px p.radius k) uy)) e ∙ sym (row_next (lowered uy) f k))

  skip_x : (uy : ℕ) (f : Best) (k : ℕ) → codable_up p.px (full_up p.px p.radius k) ≡ false → row_to g (lowered uy) f (suc k) ≡ row_to g (lowered uy) f k
  skip_x uy f k e = row_next (lowered uy) f k ∙ sym (not_x t ref p (full_up p.px p.radius k) uy _ (simp e))

  row_zero : (y : ℤ) (f : Best) → f ≡ row_to g y f 0
  unfolding row_to
  row_zero y f = refl

  module _ (s : Span) (q : Spans p.px p.radius s) (uy : ℕ) (f : Best) where
    pub row_start : f ≡ row_to g (lowered uy) f s.from
    row_start = row_zero (lowered uy) f ∙ idle_start (row_to g (lowered uy) f) _ (skip_x uy f) s.from q.before

    pub row_end : row_to g (lowered uy) f s.to ≡ row_to g (lowered uy) f (2 * p.radius + 1)
    row_end = idle_end (row_to g (lowered uy) f) _ (skip_x uy f) s.to (2 * p.radius + 1) q.last q.after

  -- a row that is not allowed changes nothing
  pub row_none : (uy : ℕ) (f : Best) (n : ℕ) → axis_up p.side p.y p.height p.py uy ≡ false → row_to g (lowered uy) f n ≡ f
  row_none uy f zero e = sym (row_zero (lowered uy) f)
  row_none uy f (suc n) e = row_next (lowered uy) f n ∙ sym (not_y t ref p (full_up p.px p.radius n) uy _ e) ∙ row_none uy f n e

  rows_next : (f : Best) (k : ℕ) → rows_to g f (suc k) ≡ row_to g (lowered (full_up p.py p.radius k)) (rows_to g f k) (2 * p.radius + 1)
  unfolding rows_to spot_search
  rows_next f k = ap (λ (y : ℤ). row_to g y (rows_to g f k) (2 * p.radius + 1)) (y_is k)

  pub rows_more : (f : Best) (k : ℕ) (b r : Candidate) → best_so_far b ≡ rows_to g f k
      → best_so_far r ≡ row_to g (lowered (full_up p.py p.radius k)) (best_so_far b) (2 * p.radius + 1) → best_so_far r ≡ rows_to g f (k + 1)
  rows_more f k b r e q =
      rw add-one (q ∙ ap (λ (h : Best). row_to g (lowered (full_up p.py p.radius k)) h (2 * p.radius + 1)) e ∙ sym (rows_next f k))

  skip_y : (f : Best) (k : ℕ) → codable_up p.py (full_up p.py p.radius k) ≡ false → rows_to g f (suc k) ≡ rows_to g f k
  skip_y f k e = rows_next f k ∙ row_none (full_up p.py p.radius k) (rows_to g f k) (2 * p.radius + 1) (simp e)

  rows_zero : (f : Best) → f ≡ rows_to g f 0
  unfolding rows_to
  rows_zero f = refl

  module _ (s : Span) (q : Spans p.py p.radius s) (f : Best) where
    pub rows_start : f ≡ rows_to g f s.from
    rows_start = rows_zero f ∙ idle_start (rows_to g f) _ (skip_y f) s.from q.before

    pub rows_end : rows_to g f s.to ≡ rows_to g f (2 * p.radius + 1)
    rows_end = idle_end (rows_to g f) _ (skip_y f) s.to (2 * p.radius + 1) q.last q.after

-- ---- half samples
pub around-none : (g : Search) (v : Svq1Mv) (f : Best) → f ≡ around_to g v f 0
unfolding around_to
around-none g v f = refl

module _ (g : Search) (f : Best) (c : Candidate) (k : ℕ) (b r : Candidate) (so_far : best_so_far b ≡ around_to g (lowered_mv c.ux c.uy) f k) where
  around_skip : k ≡ 4 → best_so_far b ≡ around_to g (lowered_mv c.ux c.uy) f (k + 1)
  unfolding around_to
  around_skip q = rw add-one (so_far ∙ simp (eq-eqb k 4 q))

  around_more : (ux uy : ℕ) → (k ≡ 4 → ⊥) → ux + 1 ≡ c.ux + k % 3 → uy + 1 ≡ c.uy + k / 3 → best_so_far r ≡ consider g (lowered_mv ux uy) (best_so_far b)
      → best_so_far r ≡ around_to g (lowered_mv c.ux c.uy) f (k + 1)
  unfolding around_to
  around_more ux uy q hx hy w =
      let rest : Best = around_to g (lowered_mv c.ux c.uy) f k in
      rw add-one
      (w ∙ ap (consider g (lowered_mv ux uy)) so_far
      ∙ ap (λ (x : ℤ). consider g (record { x = x; y = lowered uy }) rest) (sym (near_is c.ux (k % 3) ux hx))
      ∙ ap (λ (y : ℤ). consider g (record { x = lowered c.ux +ℤ sub_ℕ (k % 3) 1; y = y }) rest) (sym (near_is c.uy (k / 3) uy hy))
      ∙ simp (ne_eqb k 4 q))

  pub around-step : BestHeld c → (k ≡ 4 → r ≡ b)
      → ((k ≡ 4 → ⊥) → best_so_far r ≡ consider g (lowered_mv (c.ux + k % 3 - 1) (c.uy + k / 3 - 1)) (best_so_far b))
      → best_so_far r ≡ around_to g (lowered_mv c.ux c.uy) f (k + 1)
  around-step h same more = go (eqb k 4) refl
    where
      go : (t : Bool) → eqb k 4 ≡ t → best_so_far r ≡ around_to g (lowered_mv c.ux c.uy) f (k + 1)
      go true q = let z = eqb-true k 4 q in ap best_so_far (same z) ∙ around_skip z
      go false q =
          let z = eqb-false k 4 q in
          around_more (c.ux + k % 3 - 1) (c.uy + k / 3 - 1) z (omega (arith, h)) (omega (arith, h)) (more z)

pub around_all : (g : Search) (c r : Candidate) → BestHeld c → best_so_far r ≡ around_to g (lowered_mv c.ux c.uy) (best_so_far c) 9 → best_so_far r ≡ refined g (best_so_far c)
around_all g c r h e = e ∙ ap (λ (v : Svq1Mv). around_to g v (best_so_far c) 9) (sym (centre_is c h))

-- ---- the whole
pub whole : (g : Search) (z f r : Candidate) → best_so_far z ≡ consider g (lowered_mv 1024 1024) nothing → best_so_far f ≡ rows_to g (best_so_far z) (2 * g.radius + 1)
    → best_so_far r ≡ refined g (best_so_far f) → best_so_far r ≡ search_best g
unfolding search_best full_search
whole g z f r a b c = c ∙ ap (refined g) (b ∙ ap (λ (w : Best). rows_to g w (2 * g.radius + 1)) a)
