-- Laws of the C host's calls: the answers of the calls below, field by field.
-- Assumes nothing.
use Rattle.std.specs.Prelude.{ℕ, ◌≡◌, refl, List, Result, Ok, Err}
use Rattle.std.proofs.Common.{ap, sym, ◌∙◌}
use Rattle.bits.specs.Basics.{pick}
use Rattle.bits.specs.Refusals.{Answer, number_of, number_told, answer_of}
use Rattle.bits.specs.CallsLaws.{refusal_met}
use Rattle.bits.specs.declared.refusal.Refusal.{Refusal}
use Rattle.text.specs.WritingForms.{TextWritten}
use Rattle.plane_room.specs.Calls.{RoomTold}
use Rattle.macroblock.specs.Macroblock.{Given}
use Rattle.macroblock.specs.Choice.{Task}
use Rattle.macroblock.specs.Slices.{Slices, Lent}
use Rattle.plane.specs.Refusals.{mid_plane}
use Rattle.plane.specs.Calls.{PlaneAnswer, PlaneWritten, PlaneRead}
use Rattle.plane_enc.specs.WriterNeeds.{write_end_of}
use Rattle.plane_enc.specs.Stated.{PlaneStated}
use Rattle.picture.specs.declared.PictureEnd.{PictureEnd}
use Rattle.picture.specs.Picture.{Shared, Results, PlaneIn}
use Rattle.picture.specs.Calls.{PictureAnswer, PictureWritten}
use Rattle.picture.specs.PictureNeeds.{picture_end_of}
use Rattle.cabunlis.specs.declared.answers.HostBytes.{HostBytes}
use Rattle.cabunlis.specs.declared.pictures.HostPicture.{HostPicture}
use Rattle.cabunlis.specs.declared.planes.HostAnswer.{HostAnswer}
use Rattle.cabunlis.specs.Host.{host_answer, HostWritten, HostStated, HostRead, PictureTold, HostPictureWritten, host_bytes, HostRoomTold, HostTextWritten}

-- ---- the calls
pub host_written : (g : Given) (t : Task) (start : ℕ) (l : Lent) (a : PlaneAnswer) (r : HostAnswer) (l' : Lent)
    → PlaneWritten g t start l a l' → r ≡ host_answer a → HostWritten g t start l r l'
host_written g t start l a r l' p e =
    let is = p.answer in
    record { answer = e ∙ ap host_answer is; left = rw is at p }

pub host_stated : (g : Given) (t : Task) (start : ℕ) (l : Lent) (held : List ℕ) (a : PlaneAnswer) (r : HostAnswer) (l' : Lent) (stated' : List ℕ)
    → PlaneStated g t start l held a l' stated' → r ≡ host_answer a → HostStated g t start l held r l' stated'
host_stated g t start l held a r l' stated' p e =
    let is = p.written.answer in
    record { answer = e ∙ ap host_answer is; left = rw is at p }

pub host_read : (g : Given) (bytes : List ℕ) (start : ℕ) (s : Slices) (a : PlaneAnswer) (r : HostAnswer) (s' : Slices)
    → PlaneRead g bytes start s a s' → r ≡ host_answer a → HostRead g bytes start s r s'
host_read g bytes start s a r s' p e =
    let is = p.answer in
    record { answer = e ∙ ap host_answer is; left = rw is at p }

-- ---- pictures
pub picture_told : (e : PictureEnd) {index : ℕ} {x y z : HostAnswer} → index ≡ pick (mid_plane (number_told e.refused)) e.done 0
    → x ≡ host_answer (write_end_of e.first) → y ≡ host_answer (write_end_of e.second) → z ≡ host_answer (write_end_of e.third)
    → PictureTold (picture_end_of e) (record { refusal = number_told e.refused; macroblock = index; done = e.done; first = x; second = y; third = z })
picture_told e i f g h = record { refusal = refl; macroblock = i; done = refl; planes = rw (f, g, h) }

pub host_picture : (s : Shared) (ps : List PlaneIn) (allowance : ℕ) (out : List ℕ) (start : ℕ) (a : PictureAnswer) (r : HostPicture) (out' : List ℕ) (results' : List Results)
    → PictureWritten s ps allowance out start a out' results' → PictureTold a r → HostPictureWritten s ps allowance out start r out' results'
host_picture s ps allowance out start a r out' results' p t =
    let is = p.answer in
    record { answer = rw is at t; left = rw is at p }

-- ---- rooms and texts
pub host_room : (Kind : Given → Type 0) (answer : Answer ℕ) (told : Result ℕ Refusal) (r : HostBytes) → RoomTold Kind answer told → r ≡ host_bytes (answer_of told)
    → HostRoomTold Kind answer r
host_room Kind answer (Ok n) r t e = record { is = e ∙ ap host_bytes t.is; suffices = λ z. rw e t.suffices }
host_room Kind answer (Err x) r t e =
    record { is = e ∙ ap host_bytes t.is; suffices = λ z. absurd (refusal_met x (number_of x) refl (sym (ap (λ (h : HostBytes). h.refusal) e) ∙ z)) }

pub host_text : (refusal : ℕ) (t out : List ℕ) (told : Result ℕ Refusal) (r : HostBytes) (after : List ℕ) → TextWritten refusal t out told after
    → r ≡ host_bytes (answer_of told) → HostTextWritten refusal t out r after
host_text refusal t out told r after w e = record { answer = e ∙ ap host_bytes w.answer; left = w.left }
