-- Laws of planes and canvases: what a size and a canvas that pass have.
-- Assumes nothing.
use Rattle.std.specs.Prelude.{ℕ, ◌*◌, ◌≤◌, ◌≡◌, true, ◌&&◌, leb, eqb, length}
use Rattle.std.proofs.Common.{arith, leb-true, eqb-true}
use Rattle.bits.specs.Basics.{or_else, unless}
use Rattle.bits.specs.BasicsLaws.{both_true, or_none, unless-none}
use Rattle.canvas.specs.Canvas.{Canvas, largest_side, padded16, side_ok, size_refusal, canvas_refusal}

-- a size that passes
pub record Sized (n : ℕ) : Type 0 where
  pub some : 1 ≤ n
  pub most : n ≤ largest_side

sized : (n : ℕ) → side_ok n ≡ true → Sized n
sized n e =
    let b = both_true (leb 1 n) _ e in
    record { some = leb-true _ _ b.0; most = leb-true _ _ b.1 }

pub size_passes : (w h : ℕ) → size_refusal w h ≡ 0 → Sized w × Sized h
size_passes w h e =
    let b = both_true (side_ok w) _ (unless-none (side_ok w && side_ok h) 1 (omega arith) e) in
    (sized w b.0, sized h b.1)

-- what a canvas that passes has
pub record Fitting (w h : ℕ) (c : Canvas) : Type 0 where
  pub width : Sized w
  pub height : Sized h
  pub stride : c.stride ≡ padded16 w
  pub rows : c.rows ≡ padded16 h
  pub samples : length c.samples ≡ c.stride * c.rows

pub plane_passes : (w h : ℕ) (c : Canvas) → or_else (size_refusal w h) (canvas_refusal w h c) ≡ 0 → Fitting w h c
plane_passes w h c e =
    let a = or_none (size_refusal w h) _ e in
    let b = or_none (unless (eqb c.stride (padded16 w) && eqb c.rows (padded16 h)) 3) _ a.1 in
    let s = size_passes w h a.0 in
    let d = both_true (eqb c.stride (padded16 w)) _ (unless-none (eqb c.stride (padded16 w) && eqb c.rows (padded16 h)) 3 (omega arith) b.0) in
    record {
      width = s.0;
      height = s.1;
      stride = eqb-true _ _ d.0;
      rows = eqb-true _ _ d.1;
      samples = eqb-true _ _ (unless-none (eqb (length c.samples) (c.stride * c.rows)) 4 (omega arith) b.1);
    }
