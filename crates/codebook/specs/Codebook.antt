-- The codebook: where a page stands, and a vector's samples in raster order (document 01, `svq1_codebook.rs`).
use Rattle.std.specs.Prelude.{ℕ, zero, suc, ◌+◌, ◌*◌, ◌/◌, ◌%◌, List, leb, get_or, ℤ}
use Rattle.bits.specs.Basics.{pick, values_from, signed_of}
use Rattle.book.specs.Level.{width, area}
use Rattle.book.specs.declared.svq1_vlc.Svq1Half.{Svq1Half}
use Rattle.book.specs.declared.svq1_vlc.Svq1Half.TheVariants.{Intra, Inter}

-- where the page of a half and a level of L0 to L3 begins in the payload (L4 and L5 have no page, and no rule asks for one)
unfoldable pub page_offset : Svq1Half → ℕ → ℕ
page_offset Intra zero = 21504
page_offset Intra (suc zero) = 18432
page_offset Intra (suc (suc zero)) = 12288
page_offset Intra (suc (suc (suc d))) = 0
page_offset Inter zero = 22272
page_offset Inter (suc zero) = 19968
page_offset Inter (suc (suc zero)) = 15360
page_offset Inter (suc (suc (suc d))) = 6144

-- of L0 to L3: the place in raster order of byte b of a vector. Bytes go by 4×4 tiles, tiles and their samples row by row
unfoldable pub raster_of : ℕ → ℕ → ℕ
raster_of d b = pick (leb (width d) 4) b ((b / 16 / 2 * 4 + b % 16 / 4) * width d + (b / 16 % 2 * 4 + b % 4))

-- the byte that goes to place p: the same order the other way round (`raster_byte`, `byte_raster`)
unfoldable pub byte_of : ℕ → ℕ → ℕ
byte_of d p = pick (leb (width d) 4) p ((p / width d / 4 * 2 + p % width d / 4) * 16 + (p / width d % 4 * 4 + p % width d % 4))

-- the vectors of a stage, and the stages of a page
abbrev pub vectors_per_stage : ℕ
vectors_per_stage = 16

abbrev pub stages_per_page : ℕ
stages_per_page = 6

-- vector j of stage s, of a half at level d: its signed samples in raster order
unfoldable pub vector_at : List ℕ → Svq1Half → ℕ → ℕ → ℕ → List ℤ
vector_at codebook h d s j =
    values_from (λ p. signed_of (get_or codebook (page_offset h d + (s * vectors_per_stage + j) * area d + byte_of d p) 0)) (area d) 0
