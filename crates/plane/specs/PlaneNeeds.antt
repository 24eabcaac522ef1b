-- What the functions behind a plane call ask: a size and a canvas that pass, a call that no refusal meets, and slices whose lengths stay (document 01, refusals 1, 3 to 7, 20 and 21).
use Rattle.std.specs.Prelude.{ℕ, ◌≤◌, List, ◌≡◌, length}
use Rattle.bits.specs.BitNeeds.{Fits}
use Rattle.book.specs.Book.{data_refusal}
use Rattle.canvas.specs.Canvas.{largest_side, padded16, size_refusal, canvas_refusal}
use Rattle.canvas.specs.declared.svq1_plane.Svq1PlaneCanvas.{Svq1PlaneCanvas}
use Rattle.macroblock.specs.Macroblock.{Given}
use Rattle.macroblock.specs.Slices.{Slices, BlockSlice, blocks_in}
use Rattle.macroblock.specs.MacroblockNeeds.{Accepted, Held}

-- a size up to the largest, and the canvas rounded up from it
pub record Padded (c : Svq1PlaneCanvas) : Type 0 where
  pub width_most : c.width ≤ largest_side
  pub height_most : c.height ≤ largest_side
  pub stride_is : c.stride ≡ padded16 c.width
  pub rows_are : c.rows ≡ padded16 c.height

-- a plane that is not refused
pub record PlaneAccepted (g : Given) (u : Slices) (bytes start : ℕ) : Type 0 where
  pub size : size_refusal g.width g.height ≡ 0
  pub canvas : canvas_refusal g.width g.height g.reference ≡ 0
  pub tables : data_refusal g.book g.codebook ≡ 0
  pub held : Held g u
  pub from : Fits bytes start 0

-- the same, with the codebook's raised copy
pub record PlaneReady (g : Given) (raised : List ℕ) (u : Slices) (bytes start : ℕ) : Type 0 where
  pub ok : Accepted g raised
  pub held : Held g u
  pub from : Fits bytes start 0

-- the slices u are as long as u₀
pub record SameLengths (u₀ u : Slices) : Type 0 where
  pub recon : length u.recon ≡ length u₀.recon
  pub blocks : (b : BlockSlice) → length (blocks_in b u) ≡ length (blocks_in b u₀)
