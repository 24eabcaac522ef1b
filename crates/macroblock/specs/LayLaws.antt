-- Laws of a macroblock shown and laid into the result slices.
-- Assumes nothing.
use Rattle.std.specs.Prelude.{◌≡◌, refl, Bool, true, false, List, ℕ, ◌*◌, ◌/◌, ◌<◌, length, get_or}
use Rattle.std.proofs.Common.{arith}
use Rattle.bits.specs.Basics.{All, signed_of}
use Rattle.vectors.specs.declared.svq1_motion_predictor.Svq1Mv.{Svq1Mv}
use Rattle.mv_cache.specs.CacheNeeds as cache
use Rattle.canvas.specs.Canvas.{Canvas, blocks_along}
use Rattle.mv_cache.specs.Grid.{part, put_part}
use Rattle.mv_cache.specs.GridLaws.{length_put}
use Rattle.mv_cache.specs.NeighboursLaws.{stored_component}
use Rattle.vectors.specs.VectorsLaws.{InRange, Inside}
use Rattle.tree.specs.TreeBits.{Node}
use Rattle.canvas.specs.declared.svq1_plane.Svq1PlaneCanvas.{Svq1PlaneCanvas}
use Rattle.macroblock.specs.Macroblock.{Given, cols, Motion, Choice, coded, vectors_of, shown}
use Rattle.macroblock.specs.Slices.{Slices, BlockSlice, x_slice, y_slice, blocks_in, stored_in, laid}
use Rattle.macroblock.specs.LayingNeeds.{choice_by, Laying, LaysChoice}
use Rattle.macroblock.specs.SampleNeeds.{Stands, Laid, Shows}
use Rattle.macroblock.specs.SampleNeedsLaws.{cols_is, skip_shown}

-- ---- shown
pub stands_by : (c : Canvas) (cols k : ℕ) → Stands c cols k → Stands c (c.stride / 16) k
stands_by c cols k s = rw (cols_is c cols k s) s

module _ (c : Svq1PlaneCanvas) (reference raised : List ℕ) (k : ℕ) (skip : Bool) (m : Motion) (t : List Node) (out : List ℕ) where
  abbrev lent : Canvas
  lent = record { samples = reference; stride = c.stride; rows = c.rows }

  pub shows_skip : skip ≡ true → Stands lent (blocks_along c.width) k → out ≡ part 16 (c.stride / 16) k reference → Shows c reference raised k (choice_by skip m t) out
  shows_skip e s o = rw e (skip_shown c reference raised k out (rw (cols_is lent (blocks_along c.width) k s) at o))

  pub shows_coded : skip ≡ false → Shows c reference raised k (coded m t) out → Shows c reference raised k (choice_by skip m t) out
  shows_coded e s = rw e s

-- ---- laid
module _ (c : Svq1PlaneCanvas) (k : ℕ) (vs : List Svq1Mv) (u : Slices) (g : Laying c k vs u) where
  cols_by : c.stride / 16 ≡ blocks_along c.width
  cols_by = omega (arith, g.stride_is)

  rows_by : c.rows / 16 ≡ blocks_along c.height
  rows_by = omega (arith, g.rows_are)

  pub lay_asks : cache.BlocksRoom 16 (c.stride / 16) k u.recon × cache.VectorSlices (c.stride / 16) (c.rows / 16) u.vx u.vy × (k < c.rows / 16 * (c.stride / 16)) × All Inside vs
  lay_asks = rw (cols_by, rows_by) (g.recon_room, g.vectors_room, g.number, g.inside)

  pub lays : (reference raised : List ℕ) (d : Choice) (out : List ℕ) (w : Slices) → Shows c reference raised k d out → Laid (c.stride / 16) k out vs u w
      → LaysChoice c reference raised k d vs u w
  lays reference raised d out w s l book codebook bytes r = rw (s book codebook bytes r, cols_by) at l

-- what a choice leaves in the slices, slice by slice
pub laid_recon : (g : Given) (k : ℕ) (c : Choice) (s : Slices) → (laid g k c s).recon ≡ put_part 16 (cols g) k (shown g k c) s.recon
unfolding laid
laid_recon g k c s = refl

pub laid_blocks : (b : BlockSlice) (g : Given) (k : ℕ) (c : Choice) (s : Slices) → blocks_in b (laid g k c s) ≡ put_part 2 (cols g) k (stored_in b c) (blocks_in b s)
unfolding laid
laid_blocks x_slice g k c s = refl
laid_blocks y_slice g k c s = refl

-- and their lengths stay
pub recon_kept : (g : Given) (k : ℕ) (c : Choice) (s : Slices) → length (laid g k c s).recon ≡ length s.recon
recon_kept g k c s = rw (laid_recon g k c s) (length_put 16 (cols g) k (shown g k c) s.recon)

pub blocks_kept : (b : BlockSlice) (g : Given) (k : ℕ) (c : Choice) (s : Slices) → length (blocks_in b (laid g k c s)) ≡ length (blocks_in b s)
blocks_kept b g k c s = rw (laid_blocks b g k c s) (length_put 2 (cols g) k (stored_in b c) (blocks_in b s))

-- vectors in -32..31 are stored so
pub stored_ranged : (b : BlockSlice) (c : Choice) → All Inside (vectors_of c) → (j : ℕ) → InRange (signed_of (get_or (stored_in b c) j 0))
stored_ranged x_slice c h = stored_component (λ v. v.x) (λ v i. i.x_in) (vectors_of c) h
stored_ranged y_slice c h = stored_component (λ v. v.y) (λ v i. i.y_in) (vectors_of c) h

-- slices with a choice's samples and vectors put there are the slices that it leaves
pub laid_is : (g : Given) (k : ℕ) (d : Choice) (u w : Slices) (vs : List Svq1Mv) → vs ≡ vectors_of d → Laid (cols g) k (shown g k d) vs u w → w ≡ laid g k d u
unfolding laid
laid_is g k d u w vs e l =
    let x = rw e at l.vx_put in
    let y = rw e at l.vy_put in
    λ i. record { recon = l.recon_put i; vx = x i; vy = y i }
