-- What the functions that make the raised copy ask of each other and leave to each other: how far it is there.
use Rattle.std.specs.Prelude.{◌≡◌, List, ℕ, ◌+◌, ◌%◌, ◌<◌, length, get_or, set}
use Rattle.book.specs.Book.{codebook_bytes}
use Rattle.book.specs.Level.{area}
use Rattle.book.specs.declared.svq1_vlc.Svq1Half.TheVariants.{Intra}
use Rattle.codebook.specs.Codebook.{page_offset, raster_of}
use Rattle.codebook.specs.CodebookForms.{raised_codebook, VectorStands}
use Rattle.codebook.specs.Raster.{raster_start, RasterOrder}

-- the vectors of a level, of n bytes each, stand from `from` on, and its numbers begin at s in the table
pub record LevelVectors (order : List ℕ) (n s from : ℕ) : Type 0 where
  pub d : ℕ
  pub level : d < 4
  pub bytes : n ≡ area d
  pub starts : s ≡ raster_start d
  pub page : from ≡ page_offset Intra d
  pub table : RasterOrder order

-- the copy is there up to entry i
pub record RaisedTo (codebook : List ℕ) (i : ℕ) (out : List ℕ) : Type 0 where
  pub size : length out ≡ codebook_bytes
  pub front : (k : ℕ) → k < i → get_or out k 0 ≡ get_or (raised_codebook codebook) k 0

-- the same up to entry `at`, and of the vector of level d that stands there the first b bytes are in their places
pub record BytesPlaced (codebook : List ℕ) (d at b : ℕ) (out : List ℕ) : Type 0 where
  pub before : RaisedTo codebook at out
  pub bytes : (q : ℕ) → q < b → get_or out (at + raster_of d q) 0 ≡ get_or (raised_codebook codebook) (at + raster_of d q) 0

-- the same by the table, four by four: n bytes to a vector, whose numbers begin at s
pub record VectorFilling (codebook order : List ℕ) (n s at b : ℕ) (out : List ℕ) : Type 0 where
  pub d : ℕ
  pub bytes : n ≡ area d
  pub starts : s ≡ raster_start d
  pub table : RasterOrder order
  pub vector : VectorStands d at
  pub fours : b % 4 ≡ 0
  pub placed : BytesPlaced codebook d at b out

-- the four bytes of the codebook from `from` on, raised, into the copy from `to` on
abbrev pub four_raised : List ℕ → List ℕ → ℕ → ℕ → List ℕ
four_raised codebook out from to =
    set
    (set (set (set out to ((get_or codebook from 0 + 128) % 256)) (to + 1) ((get_or codebook (from + 1) 0 + 128) % 256)) (to + 2) ((get_or codebook (from + 2) 0 + 128) % 256))
    (to + 3)
    ((get_or codebook (from + 3) 0 + 128) % 256)
