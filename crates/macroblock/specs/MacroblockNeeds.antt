-- What the functions of `inner` are lent, as the refusals of a plane call leave it (document 01, refusals 1 to 7 and 20).
use Rattle.std.specs.Prelude.{List, [], ◌≡◌, ℕ, ◌*◌, ◌≤◌, length}
use Rattle.book.specs.Book.{data_refusal}
use Rattle.codebook.specs.CodebookForms.{raised_codebook}
use Rattle.canvas.specs.Canvas.{size_refusal, canvas_refusal}
use Rattle.macroblock.specs.Macroblock.{Given, cols, rows}
use Rattle.macroblock.specs.Slices.{Slices, BlockSlice, blocks_in}
use Rattle.canvas.specs.declared.svq1_plane.Svq1PlaneCanvas.{Svq1PlaneCanvas}

-- what a call is given, by its parameters
abbrev pub given_by : Svq1PlaneCanvas → List ℕ → List ℕ → List ℕ → Given
given_by c reference book codebook = record {
  width = c.width;
  height = c.height;
  reference = record { samples = reference; stride = c.stride; rows = c.rows };
  book = book;
  codebook = codebook;
}

-- nothing of it is refused, and the codebook's raised copy is lent beside it
pub record Accepted (g : Given) (raised : List ℕ) : Type 0 where
  pub size : size_refusal g.width g.height ≡ 0
  pub canvas : canvas_refusal g.width g.height g.reference ≡ 0
  pub tables : data_refusal g.book g.codebook ≡ 0
  pub copy : raised ≡ raised_codebook g.codebook

-- the result slices pass 20
pub record Held (g : Given) (s : Slices) : Type 0 where
  pub recon_whole : length s.recon ≡ g.reference.stride * g.reference.rows
  pub blocks_long : (b : BlockSlice) → 4 * (rows g * cols g) ≤ length (blocks_in b s)

-- a macroblock's bits look at nothing but the book
abbrev pub by_book : List ℕ → Given
by_book book = record { width = 0; height = 0; reference = record { samples = []; stride = 0; rows = 0 }; book = book; codebook = [] }
