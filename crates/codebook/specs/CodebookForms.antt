-- The codebook as the code reads it: in raster order, each byte plus 128, where a level's page begins in it, and where a vector stands in both (over the definitions of Codebook).
use Rattle.std.specs.Prelude.{◌≡◌, List, ltb, ℕ, ◌+◌, ◌*◌, ◌/◌, ◌%◌, ◌≤◌, ◌<◌, get_or}
use Rattle.bits.specs.Basics.{pick, values_from}
use Rattle.book.specs.Level.{area}
use Rattle.book.specs.declared.svq1_vlc.Svq1Half.{Svq1Half}
use Rattle.codebook.specs.Codebook.{page_offset, byte_of}
use Rattle.book.specs.Book.{codebook_bytes}

-- where entry i of the copy comes from: pages of L3 hold vectors of 64 bytes, those of L2 of 32, and L1 and L0 are in raster order already
unfoldable pub origin_of : ℕ → ℕ
origin_of i = pick (ltb i 12288) (i / 64 * 64 + byte_of 3 (i % 64)) (pick (ltb i 18432) (i / 32 * 32 + byte_of 2 (i % 32)) i)

unfoldable pub raised_codebook : List ℕ → List ℕ
raised_codebook codebook = values_from (λ i. (get_or codebook (origin_of i) 0 + 128) % 256) codebook_bytes 0

-- where the search of a level's leaves looks for vectors in the copy; L4 and L5 have none
abbrev pub page_start : Svq1Half → ℕ → ℕ
page_start h d = pick (ltb d 4) (page_offset h d) 0

-- a vector of level d stands at `at`, in the payload as in the copy
pub record VectorStands (d at : ℕ) : Type 0 where
  pub level : d < 4
  pub inside : at + area d ≤ codebook_bytes
  pub comes : (p : ℕ) → p < area d → origin_of (at + p) ≡ at + byte_of d p
