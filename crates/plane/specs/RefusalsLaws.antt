-- Laws of the plane calls' refusals: what a plane that passes has, and the tests of the code, link by link.
-- Assumes nothing.
use Rattle.std.specs.Prelude.{◌≡◌, true, ◌&&◌, List, [], ◌∷◌, ◌++◌, ℕ, ◌*◌, ◌/◌, ◌≤◌, ◌<◌, length}
use Rattle.std.proofs.Math.Path.{sym, ap}
use Rattle.std.proofs.Common.{◌∙◌, arith, mul-le-mul}
use Rattle.std.proofs.Math.Dec.{eqb, leb}
use borrow.Author.Tests.{eq-eqb, ne_eqb, eqb-true, leb-true, le-leb, lt-leb}
use Rattle.bits.specs.Basics.{All, or_else, first_of}
use Rattle.bits.specs.BasicsLaws.{both_true, or_next, unless-none, first_passed, first_last, chain_passed, first-none}
use Rattle.bits.specs.Calls.{start_refusal}
use Rattle.bits.specs.BitNeeds.{Fits}
use Rattle.book.specs.Book.{data_refusal}
use Rattle.canvas.specs.Canvas.{Canvas, largest_side, blocks_along, padded16, size_refusal, canvas_refusal, canvas_links, source_links}
use Rattle.canvas.specs.CanvasLaws.{Fitting, plane_passes}
use Rattle.canvas.specs.declared.svq1_plane.Svq1PlaneCanvas.{Svq1PlaneCanvas}
use Rattle.macroblock.specs.Macroblock.{Given, cols, rows}
use Rattle.macroblock.specs.Slices.{Slices, BlockSlice, x_slice, y_slice, blocks_in}
use Rattle.macroblock.specs.MacroblockNeeds.{given_by, Accepted, Held}
use Rattle.macroblock.specs.MacroblockNeedsLaws.{fits}
use Rattle.plane.specs.declared.svq1_plane.inner.SliceLengths.{SliceLengths}
use Rattle.plane.specs.Plane.{count}
use Rattle.plane.specs.Refusals.{lengths_of, lengths_refusal, slices_refusal, lent_links, write_refusal_by, read_refusal_by, mid_plane}
use Rattle.plane.specs.PlaneNeeds.{Padded, PlaneAccepted}

-- ---- a call that passes
module _ (g : Given) (u : Slices) where
  each_long : {n : ℕ} → n ≤ length u.vx → n ≤ length u.vy → (b : BlockSlice) → n ≤ length (blocks_in b u)
  each_long h k x_slice = h
  each_long h k y_slice = k

  pub slices_held : slices_refusal g u ≡ 0 → Held g u
  unfolding lengths_refusal
  slices_held e =
      let x = leb (4 * count g) (length u.vx) in
      let y = leb (4 * count g) (length u.vy) in
      let r = eqb (length u.recon) (g.reference.stride * g.reference.rows) in
      let two = both_true (x && y) r (unless-none ((x && y) && r) 20 (omega arith) e) in
      let xy = both_true x y two.0 in
      record {
        recon_whole = eqb-true (length u.recon) (g.reference.stride * g.reference.rows) two.1;
        blocks_long = each_long (leb-true (4 * count g) (length u.vx) xy.0) (leb-true (4 * count g) (length u.vy) xy.1);
      }

  module _ (bytes start : ℕ) where
    start_fits : start_refusal bytes start ≡ 0 → Fits bytes start 0
    start_fits e =
        let fit = both_true (leb bytes 268435456) (leb start (8 * bytes)) (unless-none _ 21 (omega arith) e) in
        record { bytes_fit = leb-true bytes 268435456 fit.0; bits_fit = omega (arith, leb-true start (8 * bytes) fit.1) }

    abbrev lent : List ℕ
    lent = lent_links g bytes start (lengths_of u)

    lent_accepted : size_refusal g.width g.height ≡ 0 → canvas_refusal g.width g.height g.reference ≡ 0 → All (λ n. n ≡ 0) lent → PlaneAccepted g u bytes start
    lent_accepted s c p = record { size = s; canvas = c; tables = p.0; held = slices_held p.1.0; from = start_fits p.1.1.0 }

    pub read_accepted : read_refusal_by g bytes start (lengths_of u) ≡ 0 → PlaneAccepted g u bytes start
    unfolding read_refusal_by
    read_accepted e =
        let p = first-none (canvas_links g.width g.height g.reference ++ lent) e in
        lent_accepted p.0 p.1.0 p.1.1

    -- and the other way round
    pub lent_passes : data_refusal g.book g.codebook ≡ 0 → slices_refusal g u ≡ 0 → start_refusal bytes start ≡ 0 → 0 ≡ first_of lent
    lent_passes d h b = first_passed 0 _ _ d (first_passed 0 _ _ h (first_last 0 _ (sym b)))

    pub read_passes : size_refusal g.width g.height ≡ 0 → canvas_refusal g.width g.height g.reference ≡ 0 → 0 ≡ first_of lent → read_refusal_by g bytes start (lengths_of u) ≡ 0
    unfolding read_refusal_by
    read_passes s c e = sym (first_passed 0 _ _ s (first_passed 0 _ _ c e))

    pub write_passes : (n : ℕ) → first_of (source_links g.width g.height n g.reference) ≡ 0 → 0 ≡ first_of lent → write_refusal_by g n bytes start (lengths_of u) ≡ 0
    unfolding write_refusal_by
    write_passes n s e = sym (chain_passed 0 (source_links g.width g.height n g.reference) lent s e)

    module _ (n : ℕ) (e : write_refusal_by g n bytes start (lengths_of u) ≡ 0) where
      links : All (λ m. m ≡ 0) (source_links g.width g.height n g.reference ++ lent)
      unfolding write_refusal_by
      links = first-none (source_links g.width g.height n g.reference ++ lent) e

      pub write_accepted : PlaneAccepted g u bytes start × (n ≡ g.width * g.height)
      write_accepted =
          let p = links in
          (lent_accepted p.0 p.1.1.0 p.1.1.1, eqb-true n (g.width * g.height) (unless-none _ 2 (omega arith) p.1.0))

      pub results_pass : (slices_refusal g u ≡ 0) × (start_refusal bytes start ≡ 0)
      results_pass = let p = links in (p.1.1.1.1.0, p.1.1.1.1.1.0)

      -- so does one from any other bit of the same output
      pub write_later : (next : ℕ) → next ≤ 8 * bytes → write_refusal_by g n bytes next (lengths_of u) ≡ 0
      unfolding write_refusal_by
      write_later next h =
          let fit : Fits bytes start 0 = start_fits results_pass.1 in
          let z : start_refusal bytes next ≡ 0 = rw (le-leb bytes 268435456 fit.bytes_fit, le-leb next (8 * bytes) h) in
          ap (λ (m : ℕ). first_of (source_links g.width g.height n g.reference ++ (data_refusal g.book g.codebook ∷ slices_refusal g u ∷ m ∷ []))) (z ∙ sym results_pass.1) ∙ e

-- ---- the macroblocks of a plane that passes
pub count_by : (g : Given) (raised : List ℕ) → Accepted g raised → g.reference.rows / 16 * (g.reference.stride / 16) ≡ count g
count_by g raised ok =
    let f = fits g raised ok in
    let r : g.reference.rows / 16 ≡ rows g = omega (arith, f.rows) in
    let c : g.reference.stride / 16 ≡ cols g = omega (arith, f.stride) in
    rw (r, c)

pub count_most : (g : Given) (raised : List ℕ) → Accepted g raised → count g ≤ blocks_along largest_side * blocks_along largest_side
count_most g raised ok =
    let f = fits g raised ok in
    let r : rows g ≤ blocks_along largest_side = omega (arith, f.height.most) in
    let c : cols g ≤ blocks_along largest_side = omega (arith, f.width.most) in
    mul-le-mul r c

-- ---- the code's tests
-- a canvas behind the tests of its plane
module _ (c : Svq1PlaneCanvas) (samples : List ℕ) where
  abbrev lent-canvas : Canvas
  lent-canvas = record { samples = samples; stride = c.stride; rows = c.rows }

  padded : Fitting c.width c.height lent-canvas → Padded c
  padded f = record { width_most = f.width.most; height_most = f.height.most; stride_is = f.stride; rows_are = f.rows }

  pub canvas_padded : or_else (size_refusal c.width c.height) (canvas_refusal c.width c.height lent-canvas) ≡ 0 → Padded c
  canvas_padded e = padded (plane_passes c.width c.height lent-canvas e)

  pub source_padded : (n : ℕ) → first_of (source_links c.width c.height n lent-canvas) ≡ 0 → Padded c
  source_padded n e =
      let p = first-none (source_links c.width c.height n lent-canvas) e in
      canvas_padded (or_next (size_refusal c.width c.height) (canvas_refusal c.width c.height lent-canvas) p.0 ∙ p.1.1.0)

-- 20
module _ (c : Svq1PlaneCanvas) (p : Padded c) where
  pub few_blocks : c.rows / 16 * (c.stride / 16) ≤ blocks_along largest_side * blocks_along largest_side
  few_blocks =
      let r : c.rows / 16 ≤ blocks_along largest_side = omega (arith, p.rows_are, p.height_most) in
      let s : c.stride / 16 ≤ blocks_along largest_side = omega (arith, p.stride_is, p.width_most) in
      mul-le-mul r s

  pub small_canvas : c.stride * c.rows ≤ padded16 largest_side * padded16 largest_side
  small_canvas =
      let r : c.rows ≤ padded16 largest_side = omega (arith, p.rows_are, p.height_most) in
      let s : c.stride ≤ padded16 largest_side = omega (arith, p.stride_is, p.width_most) in
      mul-le-mul s r

  module _ (l : SliceLengths) (reference book codebook : List ℕ) where
    abbrev plane : Given
    plane = given_by c reference book codebook

    blocks : 4 * (c.rows / 16 * (c.stride / 16)) ≡ 4 * count plane
    blocks =
        let r : c.rows / 16 ≡ rows plane = omega (arith, p.rows_are) in
        let s : c.stride / 16 ≡ cols plane = omega (arith, p.stride_is) in
        rw (r, s)

    pub short_x : l.vx < 4 * (c.rows / 16 * (c.stride / 16)) → 20 ≡ lengths_refusal plane l
    unfolding lengths_refusal
    short_x h = rw (lt-leb (4 * count plane) l.vx (omega (arith, h, blocks)))

    module _ (x-long : 4 * (c.rows / 16 * (c.stride / 16)) ≤ l.vx) where
      pub short_y : l.vy < 4 * (c.rows / 16 * (c.stride / 16)) → 20 ≡ lengths_refusal plane l
      unfolding lengths_refusal
      short_y h = rw (le-leb (4 * count plane) l.vx (omega (arith, x-long, blocks)), lt-leb (4 * count plane) l.vy (omega (arith, h, blocks)))

      module _ (y-long : 4 * (c.rows / 16 * (c.stride / 16)) ≤ l.vy) where
        pub recon_other : (l.recon ≡ c.stride * c.rows → ⊥) → 20 ≡ lengths_refusal plane l
        unfolding lengths_refusal
        recon_other e = rw (le-leb (4 * count plane) l.vx (omega (arith, x-long, blocks)), le-leb (4 * count plane) l.vy (omega (arith, y-long, blocks)), ne_eqb l.recon (c.stride * c.rows) e)

        pub all_long : l.recon ≡ c.stride * c.rows → 0 ≡ lengths_refusal plane l
        unfolding lengths_refusal
        all_long e = rw (le-leb (4 * count plane) l.vx (omega (arith, x-long, blocks)), le-leb (4 * count plane) l.vy (omega (arith, y-long, blocks)), eq-eqb l.recon (c.stride * c.rows) e)

-- ---- refusals in the middle of a plane, number by number
module _ (n : ℕ) where
  pub mid_10 : n ≡ 10 → true ≡ mid_plane n
  unfolding mid_plane
  mid_10 e = rw (eq-eqb n 10 e)

  pub mid_11 : (n ≡ 10 → ⊥) → n ≡ 11 → true ≡ mid_plane n
  unfolding mid_plane
  mid_11 a e = rw (ne_eqb n 10 a, eq-eqb n 11 e)

  pub mid_22 : (n ≡ 10 → ⊥) → (n ≡ 11 → ⊥) → n ≡ 22 → true ≡ mid_plane n
  unfolding mid_plane
  mid_22 a b e = rw (ne_eqb n 10 a, ne_eqb n 11 b, eq-eqb n 22 e)

  pub mid_24 : (n ≡ 10 → ⊥) → (n ≡ 11 → ⊥) → (n ≡ 22 → ⊥) → eqb n 24 ≡ mid_plane n
  unfolding mid_plane
  mid_24 a b c = rw (ne_eqb n 10 a, ne_eqb n 11 b, ne_eqb n 22 c)
