-- Planes and canvases: sizes, and refusals 1 to 4 (document 01, `svq1_plane.rs`, "Refused for what came in").
use Rattle.std.specs.Prelude.{ℕ, ◌+◌, ◌*◌, ◌/◌, Bool, ◌&&◌, List, [], ◌∷◌, eqb, leb, length}
use Rattle.bits.specs.Basics.{or_else, unless}

-- a canvas: its samples, row by row, its stride and its rows
pub record Canvas : Type 0 where
  pub samples : List ℕ
  pub stride : ℕ
  pub rows : ℕ

-- the largest width or height
abbrev pub largest_side : ℕ
largest_side = 1024

-- not refused by 1
abbrev pub side_ok : ℕ → Bool
side_ok n = leb 1 n && leb n largest_side

-- macroblocks along a side, and the side rounded up to 16
abbrev pub blocks_along : ℕ → ℕ
blocks_along n = (n + 15) / 16

abbrev pub padded16 : ℕ → ℕ
padded16 n = 16 * blocks_along n

-- 1: width or height 0 or above the largest side
abbrev pub size_refusal : ℕ → ℕ → ℕ
size_refusal w h = unless (side_ok w && side_ok h) 1

-- 2: source length not width × height
abbrev pub source_refusal : ℕ → ℕ → ℕ → ℕ
source_refusal w h n = unless (eqb n (w * h)) 2

-- 3: stride or rows not the size rounded up to 16. 4: length not stride × rows
abbrev pub canvas_refusal : ℕ → ℕ → Canvas → ℕ
canvas_refusal w h c =
    or_else (unless (eqb c.stride (padded16 w) && eqb c.rows (padded16 h)) 3) (unless (eqb (length c.samples) (c.stride * c.rows)) 4)

-- what a call that reads a plane tests first, and one that writes a plane from a source of n samples
abbrev pub canvas_links : ℕ → ℕ → Canvas → List ℕ
canvas_links w h c = size_refusal w h ∷ canvas_refusal w h c ∷ []

abbrev pub source_links : ℕ → ℕ → ℕ → Canvas → List ℕ
source_links w h n c = size_refusal w h ∷ source_refusal w h n ∷ canvas_refusal w h c ∷ []
