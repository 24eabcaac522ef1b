-- The refusals of a picture: the planes in turn, each through all its checks, then 31 (document 02, §5).
use Rattle.std.specs.Prelude.{ℕ, ◌*◌, List, [], ◌∷◌, ◌++◌, map, leb, length}
use Rattle.bits.specs.Basics.{first_of, unless}
use Rattle.macroblock.specs.declared.svq1_enc_inter.Svq1MbMode.TheVariants.{Skip}
use Rattle.macroblock.specs.Macroblock.{mode_bits}
use Rattle.macroblock.specs.MacroblockNeeds.{given_by, by_book}
use Rattle.plane.specs.Refusals.{lengths_of, write_refusal_by}
use Rattle.picture.specs.declared.inner.PlaneLengths.{PlaneLengths}
use Rattle.picture.specs.Picture.{Shared, PlaneIn, macroblocks}

-- the bits of a book's SKIP code
abbrev pub skip_bits : List ℕ → ℕ
skip_bits book = length (mode_bits (by_book book) Skip)

-- all checks of a plane written alone, by its reference and by the lengths of its other slices
abbrev pub plane_refusal_by : PlaneLengths → List ℕ → List ℕ → List ℕ → ℕ → ℕ → ℕ
plane_refusal_by p reference book codebook bytes start = write_refusal_by (given_by p.canvas reference book codebook) p.source bytes start p.slices

abbrev pub plane_lengths : PlaneIn → PlaneLengths
plane_lengths p = record { canvas = p.canvas; source = length p.source; slices = lengths_of p.results.slices }

abbrev pub plane_refusal : Shared → ℕ → ℕ → PlaneIn → ℕ
plane_refusal s bytes start p = plane_refusal_by (plane_lengths p) p.reference s.book s.codebook bytes start

-- 31: an allowance that does not hold a SKIP code for each macroblock
unfoldable pub allowance_refusal : List ℕ → ℕ → ℕ → ℕ
allowance_refusal book blocks allowance = unless (leb (skip_bits book * blocks) allowance) 31

-- all of them, for an output of so many bytes
unfoldable pub picture_refusal : Shared → List PlaneIn → ℕ → ℕ → ℕ → ℕ
picture_refusal s ps allowance bytes start = first_of (map (plane_refusal s bytes start) ps ++ (allowance_refusal s.book (macroblocks ps) allowance ∷ []))
