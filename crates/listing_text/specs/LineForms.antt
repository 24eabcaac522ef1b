-- The lines of a listing as they are written, from numbers (document 01, "Refused for the state met", the listing program; document 02, §1).
use Rattle.std.specs.Prelude.{ℕ, zero, suc, ◌+◌, ◌*◌, ◌/◌, ◌%◌, ◌≤◌, ◌≡◌, List, [], ◌∷◌, ◌++◌, eqb, length, get_or}
use Rattle.bits.specs.Basics.{pick}
use Rattle.canvas.specs.Canvas.{blocks_along}
use Rattle.text.specs.Text.{decimal, line_of}
use Rattle.text.specs.WritingForms.{put_text}
use Rattle.macroblock.specs.declared.svq1_enc_inter.Svq1MbMode.TheVariants.{Inter, Inter4Mv, Intra, Skip}
use Rattle.visible_error.specs.Visible.{ShownPlane, visible_error}
use Rattle.listing_text.specs.Listing.{mode_name}

-- what writing a text of at most `most` bytes promises, where there is room for so many: the place behind it and every byte
pub record ListedPut (most : ℕ) (bytes : List ℕ) (at : ℕ) (t : List ℕ) (r : ℕ) (after : List ℕ) : Type 0 where
  pub next : r ≡ at + length t
  pub short : length t ≤ most
  pub bytes_after : after ≡ put_text bytes at t

-- a mode's name by its position in the mode table
abbrev pub name_at : ℕ → List ℕ
name_at p = pick (eqb p 0) (mode_name Inter) (pick (eqb p 1) (mode_name Inter4Mv) (pick (eqb p 2) (mode_name Intra) (mode_name Skip)))

-- row, column, mode, bits, error
unfoldable pub line_text : ℕ → ℕ → ℕ → ℕ → ℕ → List ℕ
line_text row column mode bits error = line_of (decimal row ∷ decimal column ∷ name_at mode ∷ decimal bits ∷ decimal error ∷ [])

-- the line of macroblock k: its mode's position and its bits from a list of three numbers a macroblock, its error from the plane shown
abbrev pub listing_line_at : ShownPlane → List ℕ → ℕ → List ℕ
listing_line_at s stated k = let cols = blocks_along s.width in line_text (k / cols) (k % cols) (get_or stated (3 * k) 0) (get_or stated (3 * k + 1) 0) (visible_error s k)

-- the lines of the first n macroblocks
unfoldable pub lines_from : ShownPlane → List ℕ → ℕ → List ℕ
lines_from s stated zero = []
lines_from s stated (suc n) = lines_from s stated n ++ listing_line_at s stated n
