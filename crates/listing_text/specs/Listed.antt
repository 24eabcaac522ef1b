-- The listing as a call: the room that it needs, its parts as they are computed, and what it leaves (document 01, "Refused for the state met", the listing program; document 02, §1).
use Rattle.std.specs.Prelude.{ℕ, ◌*◌, ◌≤◌, ◌≡◌, List, ◌++◌, eqb, leb, length, take, drop, replicate}
use Rattle.bits.specs.Basics.{pick}
use Rattle.bits.specs.Refusals.{number_told}
use Rattle.book_file.specs.BookFile.{file_book}
use Rattle.canvas.specs.Canvas.{padded16}
use Rattle.canvas.specs.declared.svq1_plane.Svq1PlaneCanvas.{Svq1PlaneCanvas}
use Rattle.macroblock.specs.Macroblock.{Given}
use Rattle.macroblock.specs.Choice.{Task}
use Rattle.macroblock.specs.Slices.{Lent, lent_by}
use Rattle.plane_enc.specs.declared.svq1_enc_inter.WriteEnd.{WriteEnd}
use Rattle.plane.specs.Refusals.{write_refusal}
use Rattle.listing_job.specs.Job.{most_width, most_height}
use Rattle.visible_error.specs.Visible.{ShownPlane, visible_total}
use Rattle.visible_error.specs.VisibleNeeds.{shown_blocks, Showable}
use Rattle.listing_text.specs.Listing.{Files, output_bytes, no_slices, total_line, refused_text, listing}
use Rattle.listing_text.specs.LineForms.{lines_from}

-- the bytes that a listing needs at most: 99 lines of 94 bytes and a total of 48 fit (law `listing-fits`)
abbrev pub listing_room : ℕ
listing_room = 16384

-- the macroblocks of the largest plane
abbrev pub most_blocks : ℕ
most_blocks = 99

-- what a call of the listing meets: r is its answer, after what it leaves in a lent text; one that is too short is left as it is
pub record Listed (f : Files) (text : List ℕ) (r : ℕ) (after : List ℕ) : Type 0 where
  pub answer : r ≡ pick (leb listing_room (length text)) (length (listing f)) 0
  pub text_after : after ≡ pick (leb listing_room (length text)) (listing f ++ drop r text) text
  -- what a caller needs to take the listing out of the text; it follows from the above
  pub within : r ≤ length after
  pub counted : r ≡ length (take r after)

-- ---- the files
abbrev pub files_by : List ℕ → List ℕ → List ℕ → List ℕ → List ℕ → Files
files_by book codebook source reference job = record { book = book; codebook = codebook; source = source; reference = reference; job = job }

-- the canvas of a plane
abbrev pub canvas_of : ℕ → ℕ → Svq1PlaneCanvas
canvas_of w h = record { width = w; height = h; stride = padded16 w; rows = padded16 h }

-- what checking the files promises: the refusal, and the file's book where there is none
pub record FilesChecked (refusal : ℕ) (file : List ℕ) (r : ℕ) (book : List ℕ) : Type 0 where
  pub refused : r ≡ refusal
  pub held : r ≡ 0 → book ≡ file_book file

-- ---- the plane
-- a plane of the program's sizes that nothing refuses
pub record Listable (g : Given) (t : Task) : Type 0 where
  pub wide : g.width ≤ most_width
  pub high : g.height ≤ most_height
  pub passes : write_refusal g t (replicate output_bytes 0) 0 (no_slices g) ≡ 0

-- the program's own slices: the output, the results of the largest plane, and three numbers for each of its macroblocks
pub record Fresh (out recon vx vy stated : List ℕ) : Type 0 where
  pub output : out ≡ replicate output_bytes 0
  pub samples : recon ≡ replicate (most_width * most_height) 0
  pub vectors_x : vx ≡ replicate (4 * most_blocks) 0
  pub vectors_y : vy ≡ replicate (4 * most_blocks) 0
  pub numbers : length stated ≡ 3 * most_blocks

-- the part of them that a plane needs, empty
pub record EmptyFor (g : Given) (l : Lent) (stated : List ℕ) : Type 0 where
  pub empty : l ≡ lent_by (replicate output_bytes 0) (no_slices g)
  pub numbers : length stated ≡ 3 * most_blocks

-- a plane written as far as r says: what it shows, and what was stated of its macroblocks
pub record ListedReady (s : ShownPlane) (stated : List ℕ) (r : WriteEnd) : Type 0 where
  pub fits : Showable s
  pub done : r.done ≤ shown_blocks s
  pub few : shown_blocks s ≤ most_blocks
  pub numbers : length stated ≡ 3 * most_blocks

-- its lines and its total, or its refusal
unfoldable pub end_text : ShownPlane → List ℕ → WriteEnd → List ℕ
end_text s stated r =
    pick (eqb (number_told r.refused) 0) (lines_from s stated r.done ++ total_line r.bits (visible_total s)) (refused_text (number_told r.refused))
