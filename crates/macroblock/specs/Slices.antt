-- The result slices, and what a macroblock leaves in them (document 01, "Files as they stay": the vector slices, the reconstruction by plane).
use Rattle.std.specs.Prelude.{ℕ, List, map}
use Rattle.bits.specs.Basics.{signed_byte}
use Rattle.mv_cache.specs.Neighbours.{Near, near_of}
use Rattle.mv_cache.specs.Grid.{put_part}
use Rattle.macroblock.specs.Macroblock.{Given, cols, rows, Choice, vectors_of, shown}

-- the result slices that writer and reader share: the reconstruction, and the block vectors' x and y
pub record Slices : Type 0 where
  pub recon : List ℕ
  pub vx : List ℕ
  pub vy : List ℕ

-- the slices made of three lists: the reconstruction, x, y
abbrev pub slices_by : List ℕ → List ℕ → List ℕ → Slices
slices_by recon vx vy = record { recon = recon; vx = vx; vy = vy }

-- what a writer is lent to write into, or has left there: the output's bytes and the result slices
pub record Lent : Type 0 where
  pub out : List ℕ
  pub slices : Slices

abbrev pub lent_by : List ℕ → Slices → Lent
lent_by out s = record { out = out; slices = s }

-- those of them that hold one byte for each 8×8 block, four a macroblock
pub data BlockSlice : Type 0 where
  x_slice : BlockSlice
  y_slice : BlockSlice

abbrev pub blocks_in : BlockSlice → Slices → List ℕ
blocks_in x_slice s = s.vx
blocks_in y_slice s = s.vy

-- the four bytes that a choice leaves in it: a component of each block's vector
abbrev pub stored_in : BlockSlice → Choice → List ℕ
stored_in x_slice c = map (λ v. signed_byte v.x) (vectors_of c)
stored_in y_slice c = map (λ v. signed_byte v.y) (vectors_of c)

-- the neighbours of macroblock k, as the vectors of the macroblocks before it were left
abbrev pub near : Given → Slices → ℕ → Near
near g s k = near_of (cols g) (rows g) s.vx s.vy k

-- macroblock k of each slice as a choice leaves it
unfoldable pub laid : Given → ℕ → Choice → Slices → Slices
laid g k c s = record {
  recon = put_part 16 (cols g) k (shown g k c) s.recon;
  vx = put_part 2 (cols g) k (stored_in x_slice c) s.vx;
  vy = put_part 2 (cols g) k (stored_in y_slice c) s.vy;
}
