-- Laws of the search as a call: its refusals in order, what a call that is not refused has, and its answer.
-- Assumes nothing.
use Rattle.std.specs.Prelude.{ℕ, suc, ◌+◌, ◌-◌, ◌*◌, ◌%◌, ◌<◌, ◌≤◌, ◌≡◌, refl, true, false, ◌&&◌, ◌||◌, ℤ, pos, negsuc, ◌+ℤ◌, length}
use Rattle.std.proofs.Common.{sym, ◌∙◌, arith, lt-ltb, le-ltb, le-leb, ltb-true, eqb-true, eq-eqb, ne_eqb}
use Rattle.std.proofs.Math.Path.{ap}
use Rattle.std.proofs.Math.Bool.{Bool}
use Rattle.std.proofs.Math.Dec.{ltb, eqb}
use Rattle.bits.specs.Basics.{or_else, unless}
use Rattle.bits.specs.BasicsLaws.{both_true, or_first, or_next, or_none, unless-none}
use Rattle.bits.specs.Refusals.{refused}
use Rattle.motion.specs.declared.svq1_enc_inter.inner.Spot.{Spot}
use Rattle.vectors.specs.Vectors.{in_range}
use Rattle.vectors.specs.VectorsLaws.{InRange, range_pos, range_neg}
use Rattle.canvas.specs.CanvasLaws.{Fitting, plane_passes}
use Rattle.canvas.specs.Canvas.{Canvas, largest_side, padded16, size_refusal, canvas_refusal}
use Rattle.motion.specs.Search.{Search, search_ok, search_refusal, search_best, vector_of, searched, vector_answer, search_answer}
use Rattle.compensation.specs.RowForms.{Sides}
use Rattle.motion.specs.CandidateForms.{spot_search, MotionReady}
use Rattle.motion.specs.SearchCall.{either_side, search_block_ok, Raised}

-- ---- components
-- raised by 1024
abbrev pub raised_of : ℤ → ℕ
raised_of (pos n) = 1024 + n
raised_of (negsuc n) = 1023 - n

pub raised_is : (z : ℤ) → InRange z → Raised z (raised_of z)
raised_is (pos n) e =
    let h = range_pos n e in
    record { low = omega arith; high = omega arith; same = simp (le-ltb (1024 + n) 1024 (omega arith)) (ap pos (omega arith)) }
raised_is (negsuc n) e =
    let h = range_neg n e in
    record { low = omega arith; high = omega arith; same = simp (lt-ltb (1023 - n) 1024 (omega arith)) (ap negsuc (omega arith)) }

pub raised-sum : (z : ℤ) → InRange z → z +ℤ pos 1024 ≡ pos (raised_of z)
raised-sum (pos n) e = ap pos (omega arith)
raised-sum (negsuc n) e = let h = range_neg n e in simp (le-ltb 1024 (suc n) (omega arith)) (ap pos (omega arith))

-- ---- refusals
and_assoc : (a b c : Bool) → (a && (b && c)) ≡ ((a && b) && c)
and_assoc true b c = refl
and_assoc false b c = refl

or_assoc : (a b c : ℕ) → or_else a (or_else b c) ≡ or_else (or_else a b) c
or_assoc a b c = go (eqb a 0) refl
  where
    go : (t : Bool) → eqb a 0 ≡ t → or_else a (or_else b c) ≡ or_else (or_else a b) c
    go true e = simp e
    go false e = simp (e, e)

module _ (g : Search) where
  -- the tests in the order of the code
  abbrev plane : ℕ
  plane = or_else (size_refusal g.width g.height) (canvas_refusal g.width g.height g.reference)

  abbrev block : Bool
  block = search_block_ok (length g.target) g.side g.x g.y g.reference.stride g.reference.rows

  abbrev vector : Bool
  vector = in_range g.predictor.x && in_range g.predictor.y

  ok_is : search_ok g ≡ (block && vector)
  unfolding search_ok
  ok_is =
      let a : Bool = either_side g.side && (eqb (g.x % g.side) 0 && eqb (g.y % g.side) 0) in
      let b : Bool = ltb g.x g.reference.stride && ltb g.y g.reference.rows in
      let c : Bool = eqb (length g.target) (g.side * g.side) in
      ap (λ (t : Bool). a && t) (and_assoc b c vector) ∙ and_assoc a (b && c) vector

  refusal_is : search_refusal g ≡ or_else plane (unless (block && vector) 9)
  unfolding search_refusal
  refusal_is = or_assoc (size_refusal g.width g.height) (canvas_refusal g.width g.height g.reference) (unless (search_ok g) 9) ∙ ap (λ (t : Bool). or_else plane (unless t 9)) ok_is

  pub by_plane : (n : ℕ) → n ≡ plane → (n ≡ 0 → ⊥) → n ≡ search_refusal g
  by_plane n e h = e ∙ sym (refusal_is ∙ or_first plane _ (λ q. h (e ∙ q)))

  pub by_block : plane ≡ 0 → block ≡ false → 9 ≡ search_refusal g
  by_block e b = sym (refusal_is ∙ or_next plane _ e ∙ simp b)

  pub by_vector : plane ≡ 0 → block ≡ true → vector ≡ false → 9 ≡ search_refusal g
  by_vector e b v = sym (refusal_is ∙ or_next plane _ e ∙ simp (b, v))

  pub by_none : plane ≡ 0 → block ≡ true → vector ≡ true → 0 ≡ search_refusal g
  by_none e b v = sym (refusal_is ∙ or_next plane _ e ∙ simp (b, v))

-- ---- a call that passes
-- what a block that passes has
pub passing_side : (s : ℕ) → either_side s ≡ true → Sides s
passing_side s e = go (eqb s 8) refl e
  where
    go : (t : Bool) → eqb s 8 ≡ t → (t || eqb s 16) ≡ true → Sides s
    go true q w = let h : s ≡ 8 = eqb-true s 8 q in record { some = omega arith; even = omega arith; most = omega arith }
    go false q w = let h : s ≡ 16 = eqb-true s 16 w in record { some = omega arith; even = omega arith; most = omega arith }

-- a place on the grid of a side, in a canvas whose side is a multiple of 16
grid_in : (s x n size : ℕ) → either_side s ≡ true → x % s ≡ 0 → x < n → n ≡ padded16 size → x + s ≤ n
grid_in s x n size e g h k = go (eqb s 8) refl e
  where
    go : (t : Bool) → eqb s 8 ≡ t → (t || eqb s 16) ≡ true → x + s ≤ n
    go true q w = let z : s ≡ 8 = eqb-true s 8 q in let m : x % 8 ≡ 0 = rw z at g in omega arith
    go false q w = let z : s ≡ 16 = eqb-true s 16 w in let m : x % 16 ≡ 0 = rw z at g in omega arith

pub record Passes (g : Search) : Type 0 where
  pub fits : Fitting g.width g.height g.reference
  pub side : either_side g.side ≡ true
  pub x_grid : g.x % g.side ≡ 0
  pub y_grid : g.y % g.side ≡ 0
  pub x_in : g.x < g.reference.stride
  pub y_in : g.y < g.reference.rows
  pub target : length g.target ≡ g.side * g.side
  pub px : InRange g.predictor.x
  pub py : InRange g.predictor.y

pub passes : (g : Search) → search_refusal g ≡ 0 → Passes g
passes g e =
    let a = or_none (plane g) _ (sym (refusal_is g) ∙ e) in
    let b = both_true (block g) _ (unless-none (block g && vector g) 9 (omega arith) a.1) in
    let v = both_true (in_range g.predictor.x) _ b.1 in
    let c = both_true (either_side g.side && (eqb (g.x % g.side) 0 && eqb (g.y % g.side) 0)) _ b.0 in
    let d = both_true (either_side g.side) _ c.0 in
    let f = both_true (eqb (g.x % g.side) 0) _ d.1 in
    let h = both_true (ltb g.x g.reference.stride && ltb g.y g.reference.rows) _ c.1 in
    let k = both_true (ltb g.x g.reference.stride) _ h.0 in
    record {
      fits = plane_passes g.width g.height g.reference a.0;
      side = d.0;
      x_grid = eqb-true _ _ f.0;
      y_grid = eqb-true _ _ f.1;
      x_in = ltb-true _ _ k.0;
      y_in = ltb-true _ _ k.1;
      target = eqb-true _ _ h.1;
      px = v.0;
      py = v.1;
    }

-- ---- the answer
abbrev pub spot_of : Search → ℕ → ℕ → Spot
spot_of g ux uy = record {
  x = g.x;
  y = g.y;
  width = g.width;
  height = g.height;
  stride = g.reference.stride;
  rows = g.reference.rows;
  side = g.side;
  px = ux;
  py = uy;
  radius = g.radius;
}

module _ (g : Search) (ux uy : ℕ) (a : Raised g.predictor.x ux) (b : Raised g.predictor.y uy) where
  pub spot_is : spot_search g.target g.reference.samples (spot_of g ux uy) ≡ g
  unfolding spot_search
  spot_is = λ i. record {
    reference = g.reference;
    width = g.width;
    height = g.height;
    target = g.target;
    side = g.side;
    x = g.x;
    y = g.y;
    predictor = record { x = a.same i; y = b.same i };
    radius = g.radius;
  }

  pub ready : search_refusal g ≡ 0 → g.radius ≤ 255 → MotionReady g.target g.reference.samples (spot_of g ux uy)
  ready e small =
      let s = passes g e in
      record {
        sides = passing_side g.side s.side;
        width_some = s.fits.width.some;
        width_in = omega (arith, s.fits.stride);
        stride_most = omega (arith, s.fits.stride, s.fits.width.most);
        height_some = s.fits.height.some;
        height_in = omega (arith, s.fits.rows);
        rows_most = omega (arith, s.fits.rows, s.fits.height.most);
        x_in = grid_in g.side g.x g.reference.stride g.width s.side s.x_grid s.x_in s.fits.stride;
        y_in = grid_in g.side g.y g.reference.rows g.height s.side s.y_grid s.y_in s.fits.rows;
        px_low = a.low;
        px_high = a.high;
        py_low = b.low;
        py_high = b.high;
        radius_most = small;
        target_len = s.target;
        reference_len = s.fits.samples;
      }

pub answer_refused : (g : Search) (n : ℕ) → n ≡ search_refusal g → (n ≡ 0 → ⊥) → refused n ≡ search_answer g
unfolding search_answer
answer_refused g n e h = rw e (simp (ne_eqb (search_refusal g) 0 (λ q. h (e ∙ q))))

pub answer_found : (g : Search) → search_refusal g ≡ 0 → vector_answer (vector_of (search_best g)) ≡ search_answer g
unfolding search_answer searched
answer_found g e = simp (eq-eqb (search_refusal g) 0 e)

-- ---- for callers that know their search to pass
fits_plane : (w h : ℕ) (c : Canvas) → Fitting w h c → or_else (size_refusal w h) (canvas_refusal w h c) ≡ 0
fits_plane w h c f =
    simp (
      le-leb 1 w f.width.some,
      le-leb w largest_side f.width.most,
      le-leb 1 h f.height.some,
      le-leb h largest_side f.height.most,
      eq-eqb c.stride (padded16 w) f.stride,
      eq-eqb c.rows (padded16 h) f.rows,
      eq-eqb (length c.samples) (c.stride * c.rows) f.samples,
    )

pub not_refused : (g : Search) → Passes g → search_refusal g ≡ 0
not_refused g s =
    let b : block g ≡ true =
    simp (
      s.side,
      eq-eqb (g.x % g.side) 0 s.x_grid,
      eq-eqb (g.y % g.side) 0 s.y_grid,
      lt-ltb g.x g.reference.stride s.x_in,
      lt-ltb g.y g.reference.rows s.y_in,
      eq-eqb (length g.target) (g.side * g.side) s.target,
    ) in
    let v : vector g ≡ true = simp (s.px, s.py) in
    sym (by_none g (fits_plane g.width g.height g.reference s.fits) b v)

pub answer_searched : (g : Search) → Passes g → search_answer g ≡ vector_answer (searched g)
unfolding search_answer
answer_searched g s = simp (eq-eqb (search_refusal g) 0 (not_refused g s))
