-- Laws of the result slices: what laying a macroblock leaves, slices whose lengths stay, and slices that agree on the macroblocks before one.
-- Assumes nothing.
use Rattle.std.specs.Prelude.{◌≡◌, refl, ℕ, suc, ◌*◌, ◌≤◌, ◌<◌, List, length, drop}
use Rattle.std.proofs.Common.{◌∙◌, arith}
use Rattle.bits.specs.Basics.{All}
use Rattle.vectors.specs.VectorsLaws.{Inside}
use Rattle.mv_cache.specs.GridLaws.{Agree, HoldsBlocks, agree_put, in_owner, put_past}
use Rattle.mv_cache.specs.NeighboursLaws.{near_same, Ranged, ranged_put}
use Rattle.macroblock.specs.Macroblock.{Given, cols, rows, Choice, vectors_of, shown}
use Rattle.macroblock.specs.Slices.{Slices, BlockSlice, x_slice, y_slice, blocks_in, stored_in, near, laid}
use Rattle.macroblock.specs.MacroblockNeeds.{Held}
use Rattle.macroblock.specs.MacroblockNeedsLaws.{four_each}
use Rattle.macroblock.specs.LayLaws.{laid_recon, laid_blocks, recon_kept, blocks_kept, stored_ranged}
use Rattle.plane.specs.Plane.{count}
use Rattle.plane.specs.PlaneNeeds.{SameLengths}

-- ---- lengths that stay
pub same_at_first : (u : Slices) → SameLengths u u
same_at_first u = record { recon = refl; blocks = λ b. refl }

pub laid_same : (g : Given) (k : ℕ) (c : Choice) (u₀ u : Slices) → SameLengths u₀ u → SameLengths u₀ (laid g k c u)
laid_same g k c u₀ u l = record { recon = recon_kept g k c u ∙ l.recon; blocks = λ b. blocks_kept b g k c u ∙ l.blocks b }

pub same_held : (g : Given) (u₀ u : Slices) → SameLengths u₀ u → Held g u₀ → Held g u
same_held g u₀ u l h = record { recon_whole = l.recon ∙ h.recon_whole; blocks_long = λ b. rw (l.blocks b) (h.blocks_long b) }

-- ---- slices that pass refusal 20, by the plane's macroblocks
pub record SizedSlices (g : Given) (s : Slices) : Type 0 where
  pub recon : length s.recon ≡ rows g * 16 * (16 * cols g)
  pub blocks : (b : BlockSlice) → 4 * count g ≤ length (blocks_in b s)

module _ (g : Given) (wide : 0 < cols g) where
  pub holds_recon : (p : Slices) (k : ℕ) → k ≤ count g → SizedSlices g p → HoldsBlocks 16 (cols g) k p.recon
  holds_recon p k h z j l = rw z.recon (in_owner 16 (cols g) (omega arith) wide (rows g) j (omega arith))

  pub holds_blocks : (vs : List ℕ) (k : ℕ) → k ≤ count g → 4 * count g ≤ length vs → HoldsBlocks 2 (cols g) k vs
  holds_blocks vs k h z j l = omega (arith, in_owner 2 (cols g) (omega arith) wide (rows g) j (omega arith), four_each (rows g) (cols g))

  pub laid_sized : (k : ℕ) (c : Choice) (p : Slices) → SizedSlices g p → SizedSlices g (laid g k c p)
  laid_sized k c p z = record { recon = recon_kept g k c p ∙ z.recon; blocks = λ b. rw (blocks_kept b g k c p) (z.blocks b) }

  -- vectors in -32..31 stay so when those of macroblock k are laid behind them
  pub ranged_laid : (b : BlockSlice) (k : ℕ) (c : Choice) (p : Slices) → k < count g → All Inside (vectors_of c) → 4 * count g ≤ length (blocks_in b p)
      → Ranged (cols g) k (blocks_in b p) → Ranged (cols g) (suc k) (blocks_in b (laid g k c p))
  ranged_laid b k c p h inside z r =
      rw (laid_blocks b g k c p) (ranged_put (cols g) k (stored_in b c) (blocks_in b p) (holds_blocks (blocks_in b p) (suc k) h z) r (stored_ranged b c inside))

  -- two sets of slices agree on the macroblocks before k
  pub record Alike (k : ℕ) (p q : Slices) : Type 0 where
    pub recon : Agree 16 (cols g) k p.recon q.recon
    pub blocks : (b : BlockSlice) → Agree 2 (cols g) k (blocks_in b p) (blocks_in b q)

  pub alike_laid : (k : ℕ) (c : Choice) (p q : Slices) → k < count g → SizedSlices g p → SizedSlices g q → Alike k p q
      → Alike (suc k) (laid g k c p) (laid g k c q)
  alike_laid k c p q h zp zq x = record {
    recon = rw (laid_recon g k c p, laid_recon g k c q)
        (agree_put 16 (cols g) k (shown g k c) p.recon q.recon (holds_recon p (suc k) h zp) (holds_recon q (suc k) h zq) x.recon);
    blocks = λ b.
        rw (laid_blocks b g k c p, laid_blocks b g k c q)
        (agree_put 2 (cols g) k (stored_in b c) (blocks_in b p) (blocks_in b q) (holds_blocks (blocks_in b p) (suc k) h (zp.blocks b)) (holds_blocks (blocks_in b q) (suc k) h (zq.blocks b)) (x.blocks b));
  }

  pub alike_near : (k : ℕ) (p q : Slices) → Alike k p q → near g p k ≡ near g q k
  alike_near k p q x = near_same (cols g) (rows g) k p.vx p.vy q.vx q.vy (x.blocks x_slice) (x.blocks y_slice)

  -- what lies behind the blocks stays
  pub laid_past : (b : BlockSlice) (k : ℕ) (c : Choice) (p : Slices) → k < count g → drop (4 * count g) (blocks_in b (laid g k c p)) ≡ drop (4 * count g) (blocks_in b p)
  laid_past b k c p h = rw (laid_blocks b g k c p) (put_past 2 (cols g) (omega arith) wide (rows g) k (4 * count g) (stored_in b c) (blocks_in b p) h (four_each (rows g) (cols g)))
