-- The raster order of L0 to L3 as one table (document 02, §3): the place of each byte of a vector.
use Rattle.std.specs.Prelude.{ℕ, zero, suc, ◌+◌, ◌<◌, ◌≡◌, List, eqb, length, get_or}
use Rattle.bits.specs.Basics.{pick, sum}
use Rattle.book.specs.Level.{area}
use Rattle.codebook.specs.Codebook.{raster_of}

-- the levels one behind the other from L0 on, as many numbers for each as its vectors have bytes: where those of a level begin
unfoldable pub raster_start : ℕ → ℕ
raster_start zero = 0
raster_start (suc d) = raster_start d + area d

-- 8 + 16 + 32 + 64
abbrev pub raster_numbers : ℕ
raster_numbers = 120

-- the number of byte b of level d
abbrev pub raster_number : List ℕ → ℕ → ℕ → ℕ
raster_number t d b = get_or t (raster_start d + b) 0

-- how many bytes of a vector of level d the table puts into place p
abbrev pub bytes_into : List ℕ → ℕ → ℕ → ℕ
bytes_into t d p = sum (λ b. pick (eqb (raster_number t d b) p) 1 0) (area d)

-- a table that is the raster order: each number is the rule's, and each place of a level gets exactly one byte of a vector
pub record RasterOrder (t : List ℕ) : Type 0 where
  pub size : length t ≡ raster_numbers
  pub rule : (d b : ℕ) → d < 4 → b < area d → raster_number t d b ≡ raster_of d b
  pub once : (d p : ℕ) → d < 4 → p < area d → bytes_into t d p ≡ 1
