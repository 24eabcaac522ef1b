-- What the functions behind a picture's call ask and answer (document 02, §5).
use Rattle.std.specs.Prelude.{ℕ, ◌*◌, ◌≤◌, List, [], ◌∷◌, ◌≡◌, Option, Some, eqb, length}
use Rattle.bits.specs.Refusals.{number_told}
use Rattle.bits.specs.declared.refusal.Refusal.{Refusal}
use Rattle.bits.specs.Basics.{pick, or_else, first_of}
use Rattle.bits.specs.Bits.{bits_of}
use Rattle.book.specs.Book.{book_refusal}
use Rattle.canvas.specs.Canvas.{largest_side}
use Rattle.canvas.specs.declared.svq1_plane.Svq1PlaneCanvas.{Svq1PlaneCanvas}
use Rattle.macroblock.specs.Slices.{Slices}
use Rattle.macroblock_enc.specs.LimitForms.{Spends}
use Rattle.plane.specs.Run.{End}
use Rattle.plane.specs.Plane.{Writing}
use Rattle.plane.specs.PlaneNeeds.{PlaneAccepted}
use Rattle.plane_enc.specs.declared.svq1_enc_inter.WriteEnd.{WriteEnd}
use Rattle.plane_enc.specs.WriterNeeds.{write_end_of}
use Rattle.picture.specs.declared.PictureEnd.{PictureEnd}
use Rattle.picture.specs.declared.inner.PictureRefusals.{PictureRefusals}
use Rattle.picture.specs.Picture.{Shared, Results, PlaneIn, plane_given, macroblocks, Handed, plane_end, plane_left, in_turn, behind_last}
use Rattle.picture.specs.Refusals.{skip_bits}
use Rattle.picture.specs.Calls.{PictureAnswer, written_picture}

-- the answer of the code
abbrev pub picture_end_of : PictureEnd → PictureAnswer
picture_end_of r = record { refusal = number_told r.refused; done = r.done; planes = write_end_of r.first ∷ write_end_of r.second ∷ write_end_of r.third ∷ [] }

-- ---- refusals
-- a check behind others is asked only where they pass
abbrev pub behind_others : ℕ → ℕ → ℕ
behind_others before n = pick (eqb before 0) n 0

-- the checks of three planes and of the allowance, in turn
pub record RefusalsTold (a b c d : ℕ) (r : PictureRefusals) : Type 0 where
  pub first : number_told r.first ≡ a
  pub second : number_told r.second ≡ behind_others a b
  pub third : number_told r.third ≡ behind_others (or_else a b) c
  pub picture : number_told r.picture ≡ first_of (a ∷ b ∷ c ∷ d ∷ [])

-- the answer for a plane of a refused picture: a refusal, if it meets one, and nothing done
abbrev pub nothing_done : Option Refusal → WriteEnd
nothing_done refused = record { refused = refused; done = 0; next = 0; bits = 0; error = 0 }

-- a size that passes 1
pub record SmallSides (c : Svq1PlaneCanvas) : Type 0 where
  pub width : c.width ≤ largest_side
  pub height : c.height ≤ largest_side

-- what 31 is judged by: a book that passes, and three sizes that do
pub record AllowanceReady (book : List ℕ) (a b c : Svq1PlaneCanvas) : Type 0 where
  pub passes : book_refusal book ≡ 0
  pub first : SmallSides a
  pub second : SmallSides b
  pub third : SmallSides c

-- ---- planes
-- what is handed on to planes that are still to come, in an output of so many bytes: its length stays, the next bit lies in it, and what is left of the allowance holds a SKIP code for
-- each of their macroblocks
pub record Intact (s : Shared) (ps : List PlaneIn) (bytes : ℕ) (h : Handed) : Type 0 where
  pub long : length h.out ≡ 8 * bytes
  pub inside : h.next ≤ 8 * bytes
  pub enough : skip_bits s.book * macroblocks ps ≤ h.remaining

-- a plane that no refusal meets, to be written from a bit on inside what is left
pub record NextReady (s : Shared) (p : PlaneIn) (behind remaining bytes start : ℕ) : Type 0 where
  pub plane : PlaneAccepted (plane_given s p) p.results.slices bytes start
  pub samples : length p.source ≡ p.canvas.width * p.canvas.height
  pub spends : Spends (plane_given s p) (Some (record { allowance = remaining; behind = behind })) 0 0

-- the end that an answer, an output and slices stand for
abbrev pub end_by : WriteEnd → List ℕ → Slices → End Writing
end_by r out v = record { refusal = number_told r.refused; done = r.done; state = record { out = bits_of out; next = r.next; slices = v; bits = r.bits; error = r.error } }

-- a plane has ended, reached or not, with the answer r, and has left out' and results'
pub record PlaneThrough (s : Shared) (p : PlaneIn) (behind : ℕ) (h : Handed) (r : WriteEnd) (out' : List ℕ) (results' : Results) : Type 0 where
  pub ended : plane_end s p behind h ≡ end_by r out' results'.slices
  pub left : results' ≡ plane_left s p behind h

-- a picture that no refusal meets is written as far as it goes
pub record PictureThrough (s : Shared) (ps : List PlaneIn) (h : Handed) (r : PictureAnswer) (out' : List ℕ) (left : List Results) : Type 0 where
  pub answer : r ≡ written_picture s ps h
  pub left_out : bits_of out' ≡ (behind_last s ps h).out
  pub left_planes : left ≡ in_turn s (plane_left s) ps h
