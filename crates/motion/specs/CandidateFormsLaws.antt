-- Laws of one candidate: the tests over raised numbers are those of the definition; a vector in the window is read inside the canvas; and what trying it leaves.
-- Assumes nothing.
use Rattle.std.specs.Prelude.{ℕ, ◌+◌, ◌-◌, ◌*◌, ◌/◌, ◌%◌, ◌<◌, ◌≤◌, min, ◌≡◌, refl, List, Bool, true, ◌&&◌, not, ltb, leb, ℤ, pos, ◌+ℤ◌, length, get_or}
use Rattle.std.proofs.Math.Path.{sym, ap}
use Rattle.std.proofs.Common.{◌∙◌, mul_comm, lt-ltb, le-leb, leb-true, ltb-true, ltb-false}
use Rattle.std.proofs.Math.Bool.{false}
use Rattle.std.proofs.Math.Option.{none, some}
use native.Mathlib.Omega.{arith}
use Rattle.std.proofs.Math.Decide.{dec_lt}
use Rattle.std.proofs.Math.IntN.{sub_ℕ}
use Rattle.std.specs.Int.Signed.{lt_z, le_z, shr_z}
use Rattle.std.proofs.Math.Arith.{digits_div, digits_mod}
use Rattle.std.proofs.lemmas.Bool.{lt-leb}
use Rattle.bits.specs.Basics.{pick, gap, sum}
use Rattle.bits.specs.BasicsLaws.{both_true}
use Rattle.vectors.specs.declared.svq1_motion_predictor.Svq1Mv.{Svq1Mv}
use Rattle.compensation.specs.declared.svq1_enc_inter.inner.VectorSum.{VectorSum}
use Rattle.motion.specs.declared.svq1_enc_inter.inner.Spot.{Spot}
use Rattle.motion.specs.declared.svq1_enc_inter.inner.Candidate.{Candidate}
use Rattle.vectors.specs.Vectors.{in_range, codable}
use Rattle.canvas.specs.Canvas.{Canvas}
use Rattle.compensation.specs.Compensation.{half_sample, moved_sample, moved_block}
use Rattle.motion.specs.Search.{Search, in_window, allowed, Best, nothing, best, consider, full_at, centre}
use Rattle.motion.specs.Sum.{row_error, vector_sum, error_found, consider_early}
use Rattle.motion.specs.SumLaws.{dropped_early}
use Rattle.compensation.specs.RowForms.{no_best, best_or_none, cell, row_at, ReadIn, Summed}
use Rattle.compensation.specs.RowFormsLaws.{half_in, target_fits}
use Rattle.bits.specs.SumLaws.{sum_same}
use Rattle.compensation.specs.ErrorLaws.{row_sum_lem}
use Rattle.compensation.specs.EarlyLaws.{beaten_from, rows_same}
use Rattle.bits.specs.DifferenceLaws.{leb_as, both, sub_eq, sub_add, sub_pos, pos_sub, sub_sub, sub_half, sub_one, low_is, high_is, nonneg_is, below_is}
use Rattle.motion.specs.CandidateForms.{lowered, lowered_mv, spot_search, MotionReady, codable_up, window_up, axis_up, Both, best_so_far, BestHeld}

-- ---- the tests
pub codable_is : (p u : ℕ) → codable (lowered p) (lowered u) ≡ codable_up p u
unfolding codable
codable_is p u =
    both (both (low_is u 1024 ∙ leb_as 1024 (u + 32) 992 u (λ q. omega arith) (λ q. omega arith)) (high_is u 1024))
    (ap in_range (sub_sub u p 1024) ∙ both (low_is u p) (high_is u p))

pub window_is : (side place size u : ℕ) → in_window side place size (lowered u) ≡ window_up side place size u
unfolding in_window
window_is side place size u =
    let last : ℕ = min (place + side - 1) (size - 1) in
    both
    (ap (λ (w : ℤ). le_z (pos 0) (pos place +ℤ w)) (sub_half u 512)
    ∙ ap (λ (w : ℤ). le_z (pos 0) w) (pos_sub place (u / 2) 512)
    ∙ nonneg_is (place + u / 2) 512)
    (ap (λ (w : ℤ). lt_z (pos last +ℤ shr_z w 2) (pos size)) (sub_one u 1024)
    ∙ ap (λ (w : ℤ). lt_z (pos last +ℤ w) (pos size)) (sub_half (u + 1) 512)
    ∙ ap (λ (w : ℤ). lt_z w (pos size)) (pos_sub last ((u + 1) / 2) 512)
    ∙ below_is (last + (u + 1) / 2) 512 size)

-- ---- the candidates
-- the k-th full-sample one
pub full_is : (p radius k u : ℕ) → u + 2 * radius ≡ 2 * (p / 2 + k) → full_at (lowered p) radius k ≡ lowered u
unfolding full_at
full_is p radius k u e =
    ap (λ (z : ℤ). z +ℤ z) (ap (λ (z : ℤ). z +ℤ sub_ℕ k radius) (sub_half p 512) ∙ sub_add (p / 2) 512 k radius)
    ∙ sub_add (p / 2 + k) (512 + radius) (p / 2 + k) (512 + radius)
    ∙ sub_eq (p / 2 + k + (p / 2 + k)) (512 + radius + (512 + radius)) u 1024 (omega arith)

-- the one j - 1 away from c
pub near_is : (c j u : ℕ) → u + 1 ≡ c + j → lowered c +ℤ sub_ℕ j 1 ≡ lowered u
near_is c j u e = sub_add c 1024 j 1 ∙ sub_eq (c + j) (1024 + 1) u 1024 (omega arith)

-- ---- where a vector in the window reads, on one axis
pub record ReadsAt (side place stride u : ℕ) : Type 0 where
  pub low : 512 ≤ place + u / 2
  pub high : place + u / 2 - 512 + u % 2 + side ≤ stride

reads : (side place size stride u : ℕ) → 1 ≤ side → place + side ≤ stride → 1 ≤ size → size ≤ stride → window_up side place size u ≡ true → ReadsAt side place stride u
reads side place size stride u hs hp hz hst w =
    let b = both_true (leb 512 (place + u / 2)) _ w in
    let first : 512 ≤ place + u / 2 = leb-true _ _ b.0 in
    let last : min (place + side - 1) (size - 1) + (u + 1) / 2 < size + 512 = ltb-true _ _ b.1 in
    record { low = first; high = omega arith }

place_is : (a j u : ℕ) → 512 ≤ a + u / 2 → pos (2 * (a + j)) +ℤ lowered u ≡ pos (2 * (a + u / 2 - 512 + j) + u % 2)
place_is a j u h = pos_sub (2 * (a + j)) u 1024 ∙ sub_pos (2 * (a + j) + u) 1024 (omega arith) ∙ ap pos (omega arith)

-- ---- a row of the definition, sample by sample
row_samples : (g : Search) (v : Svq1Mv) (i : ℕ) → i < g.side → length g.target ≡ g.side * g.side
    → row_error g v i
    ≡ sum (λ j. gap (get_or g.target (g.side * i + j) 0) (half_sample g.reference (pos (2 * (g.x + j)) +ℤ v.x) (pos (2 * (g.y + i)) +ℤ v.y))) g.side
unfolding row_error moved_block
row_samples g v i h e =
    let n : ℕ = g.side in
    let fits : n * i + n ≤ n * n = target_fits n i h in
    row_sum_lem g.target (moved_sample g.reference n g.x g.y v) (n * i) n (n * n) (rw e fits) fits
    ∙ sum_same _ _ n (λ j l.
    let q : n * i + j ≡ i * n + j = omega (arith, mul_comm n i) in
    let d : (n * i + j) / n ≡ i = ap (λ (k : ℕ). k / n) q ∙ digits_div i l in
    let m : (n * i + j) % n ≡ j = ap (λ (k : ℕ). k % n) q ∙ digits_mod i l in
    simp (d, m))

module _ (t ref : List ℕ) (p : Spot) (ux uy : ℕ) where
  abbrev canvas : Canvas
  canvas = record { samples = ref; stride = p.stride; rows = p.rows }

  abbrev x0 : ℕ
  x0 = p.x + ux / 2 - 512

  abbrev y0 : ℕ
  y0 = p.y + uy / 2 - 512

  -- the clamp-free row is the row of the definition
  row_is : (i : ℕ) → i < p.side → length t ≡ p.side * p.side → ReadsAt p.side p.x p.stride ux → ReadsAt p.side p.y p.rows uy
      → row_at t canvas p.side (ux % 2) (uy % 2) x0 y0 i ≡ row_error (spot_search t ref p) (lowered_mv ux uy) i
  unfolding row_at spot_search
  row_is i hi e rx ry =
      sum_same _ _ p.side (λ j hj.
      let e : (y0 + i) * p.stride + (x0 + j) ≡ (y0 + i) * p.stride + x0 + j = omega arith in
      let h = half_in canvas (x0 + j) (y0 + i) (ux % 2) (uy % 2) (omega arith) (omega arith) (omega (arith, rx.high)) (omega (arith, ry.high)) in
      ap (gap (get_or t (p.side * i + j) 0))
      (sym
      (ap (λ (z : ℤ). half_sample canvas z (pos (2 * (p.y + i)) +ℤ lowered uy)) (place_is p.x j ux rx.low)
      ∙ ap (λ (z : ℤ). half_sample canvas (pos (2 * (x0 + j) + ux % 2)) z) (place_is p.y i uy ry.low)
      ∙ h ∙ ap (cell canvas (ux % 2) (uy % 2)) e)))
      ∙ sym (row_samples (spot_search t ref p) (lowered_mv ux uy) i hi e)

  allowed_is : allowed (spot_search t ref p) (lowered_mv ux uy) ≡ (axis_up p.side p.x p.width p.px ux && axis_up p.side p.y p.height p.py uy)
  unfolding allowed spot_search
  allowed_is =
      both (both (codable_is p.px ux) (window_is p.side p.x p.width ux))
      (both (codable_is p.py uy) (window_is p.side p.y p.height uy))

  pub no_x : axis_up p.side p.x p.width p.px ux ≡ false → allowed (spot_search t ref p) (lowered_mv ux uy) ≡ false
  no_x e = allowed_is ∙ simp e

  pub no_y : axis_up p.side p.y p.height p.py uy ≡ false → allowed (spot_search t ref p) (lowered_mv ux uy) ≡ false
  no_y e = allowed_is ∙ and_no (axis_up p.side p.x p.width p.px ux) _ e
    where
      and_no : (a b : Bool) → b ≡ false → (a && b) ≡ false
      and_no true b e = e
      and_no false b e = refl

  not_allowed : (f : Best) → allowed (spot_search t ref p) (lowered_mv ux uy) ≡ false → f ≡ consider (spot_search t ref p) (lowered_mv ux uy) f
  unfolding consider
  not_allowed f e = simp e

  pub not_x : (f : Best) → axis_up p.side p.x p.width p.px ux ≡ false → f ≡ consider (spot_search t ref p) (lowered_mv ux uy) f
  not_x f e = not_allowed f (no_x e)

  pub not_y : (f : Best) → axis_up p.side p.y p.height p.py uy ≡ false → f ≡ consider (spot_search t ref p) (lowered_mv ux uy) f
  not_y f e = not_allowed f (no_y e)

-- the best so far, as an error alone
pub found_is : (b : Candidate) → error_found (best_so_far b) ≡ best_or_none b.error
unfolding best_so_far
found_is b = go (ltb b.error no_best)
  where
    go : (k : Bool) → error_found (pick k (best (lowered_mv b.ux b.uy) b.error) nothing) ≡ pick k (some b.error) none
    go true = refl
    go false = refl

axis_in : (side place size p u : ℕ) → axis_up side place size p u ≡ true → (992 ≤ u) × (u ≤ 1055)
axis_in side place size p u e =
    let c = (both_true (codable_up p u) _ e).0 in
    let r = (both_true (leb 992 u && leb u 1055) _ c).0 in
    let b = both_true (leb 992 u) _ r in
    (leb-true _ _ b.0, leb-true _ _ b.1)

module _ (t ref : List ℕ) (p : Spot) (ux uy : ℕ) (ok : Both p ux uy) where
  pub is_allowed : allowed (spot_search t ref p) (lowered_mv ux uy) ≡ true
  is_allowed = allowed_is t ref p ux uy ∙ simp (ok.x, ok.y)

  -- what its sum leaves of the best so far
  module _ (b : Candidate) (s : VectorSum) (e : s ≡ vector_sum (spot_search t ref p) (lowered_mv ux uy) (error_found (best_so_far b))) (small : s.sum < no_best) where
    left_is : (k : Bool) → leb b.error s.sum ≡ k
        → consider (spot_search t ref p) (lowered_mv ux uy) (best_so_far b) ≡ pick (not k) (best (lowered_mv ux uy) s.sum) (best_so_far b)
    unfolding consider_early
    left_is k q =
        let h = sym (e ∙ ap (vector_sum (spot_search t ref p) (lowered_mv ux uy)) (found_is b)) in
        sym ((dropped_early (spot_search t ref p) (lowered_mv ux uy)).finds_the_same (best_so_far b))
        ∙ simp (found_is b, h, is_allowed, beaten_from b.error s.sum small, q)

    better : s.sum < b.error → best_so_far (record { ux = ux; uy = uy; error = s.sum }) ≡ consider (spot_search t ref p) (lowered_mv ux uy) (best_so_far b)
    unfolding best_so_far
    better h = simp (lt-ltb s.sum no_best small) (sym (left_is false (lt-leb _ _ h)))

    held : BestHeld (record { ux = ux; uy = uy; error = s.sum })
    held =
        let x = axis_in _ _ _ _ ux ok.x in
        let y = axis_in _ _ _ _ uy ok.y in
        record { x_low = x.0; x_high = x.1; y_low = y.0; y_high = y.1; x_unset = λ q. absurd (omega arith); y_unset = λ q. absurd (omega arith) }

    pub replaced_is : (r : Candidate) → BestHeld b
        → (s.sum < b.error → r ≡ record { ux = ux; uy = uy; error = s.sum }) × (b.error ≤ s.sum → r ≡ b)
        → (best_so_far r ≡ consider (spot_search t ref p) (lowered_mv ux uy) (best_so_far b)) × BestHeld r
    replaced_is r h q = go (dec_lt s.sum b.error)
      where
        go : Dec (s.sum < b.error) → (best_so_far r ≡ consider (spot_search t ref p) (lowered_mv ux uy) (best_so_far b)) × BestHeld r
        go (yes l) = rw (q.0 l) (better l, held)
        go (no l) = let m : b.error ≤ s.sum = omega arith in rw (q.1 m) (sym (left_is true (le-leb _ _ m)), h)

  module _ (r : MotionReady t ref p) where
    pub reads_x : ReadsAt p.side p.x p.stride ux
    reads_x =
        reads p.side p.x p.width p.stride ux (omega (arith, r.sides)) r.x_in r.width_some r.width_in
        (both_true (codable_up p.px ux) _ ok.x).1

    pub reads_y : ReadsAt p.side p.y p.rows uy
    reads_y =
        reads p.side p.y p.height p.rows uy (omega (arith, r.sides)) r.y_in r.height_some r.height_in
        (both_true (codable_up p.py uy) _ ok.y).1

    pub read_in : ReadIn t (record { samples = ref; stride = p.stride; rows = p.rows }) p.side (ux % 2) (uy % 2) (p.x + ux / 2 - 512) (p.y + uy / 2 - 512)
    read_in = record {
      side = r.sides;
      ox_bit = omega arith;
      oy_bit = omega arith;
      target_len = r.target_len;
      canvas_len = r.reference_len;
      x_in = reads_x.high;
      y_in = reads_y.high;
    }

    -- the sum over rows read in the canvas is the vector's
    pub sum_is : (b : Candidate) (s : VectorSum)
        → Summed t (record { samples = ref; stride = p.stride; rows = p.rows }) p.side (ux % 2) (uy % 2) (p.x + ux / 2 - 512) (p.y + uy / 2 - 512) b.error s
        → s ≡ vector_sum (spot_search t ref p) (lowered_mv ux uy) (error_found (best_so_far b))
    unfolding vector_sum spot_search
    sum_is b s q =
        rw (found_is b)
        (q.answer ∙ rows_same _ _ (best_or_none b.error) p.side 0 0 (λ i h. row_is t ref p ux uy i (omega arith) r.target_len reads_x reads_y))

    -- at a full sample
    module _ (full-x : ux % 2 ≡ 0) (full-y : uy % 2 ≡ 0) where
      pub full_read_in : ReadIn t (record { samples = ref; stride = p.stride; rows = p.rows }) p.side 0 0 (p.x + ux / 2 - 512) (p.y + uy / 2 - 512)
      full_read_in = rw (full-x, full-y) at read_in

      pub full_sum_is : (b : Candidate) (s : VectorSum)
          → Summed t (record { samples = ref; stride = p.stride; rows = p.rows }) p.side 0 0 (p.x + ux / 2 - 512) (p.y + uy / 2 - 512) b.error s
          → s ≡ vector_sum (spot_search t ref p) (lowered_mv ux uy) (error_found (best_so_far b))
      full_sum_is b s q = sum_is b s (rw (full-x, full-y) q)

-- the centre of the half-sample neighbours
pub centre_is : (b : Candidate) → BestHeld b → centre (best_so_far b) ≡ lowered_mv b.ux b.uy
unfolding best_so_far
centre_is b h = go (ltb b.error no_best) refl
  where
    go : (k : Bool) → ltb b.error no_best ≡ k → centre (pick k (best (lowered_mv b.ux b.uy) b.error) nothing) ≡ lowered_mv b.ux b.uy
    go true e = refl
    go false e = let l : no_best ≤ b.error = ltb-false _ _ e in rw (h.x_unset l, h.y_unset l) refl
