-- What the calls on the codebook answer (document 01, `svq1_codebook.rs`).
use Rattle.std.specs.Prelude.{ℕ, ◌&&◌, ltb, Option, Some, None}
use Rattle.bits.specs.Basics.{pick}
use Rattle.book.specs.Level.{area}
use Rattle.book.specs.declared.svq1_vlc.Svq1Half.{Svq1Half}
use Rattle.codebook.specs.Codebook.{page_offset, raster_of}

-- where a half's page of a level begins in the payload; L4 and L5 have no page
unfoldable pub page_place : ℕ → Svq1Half → Option ℕ
page_place d h = pick (ltb d 4) (Some (page_offset h d)) None

-- where byte b of a level's vectors stands in raster order; L4 and L5 have no vectors, and a vector no bytes behind its last
unfoldable pub raster_place : ℕ → ℕ → Option ℕ
raster_place d b = pick (ltb d 4 && ltb b (area d)) (Some (raster_of d b)) None
