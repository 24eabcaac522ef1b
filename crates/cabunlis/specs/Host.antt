-- What the C host's calls answer, and every byte that they leave (document 01, "Refused for the state met": a C program calls the writer and reader with numbers and byte slices; document 02, §1, §2, §4, §5).
use Rattle.std.specs.Prelude.{ℕ, not, List, [], ◌∷◌, map, ◌≡◌, eqb}
use Rattle.bits.specs.Basics.{pick}
use Rattle.bits.specs.Refusals.{Answer, done, refused}
use Rattle.text.specs.WritingForms.{put_text, text_answer}
use Rattle.macroblock.specs.Macroblock.{Given}
use Rattle.macroblock.specs.Choice.{Task}
use Rattle.macroblock.specs.declared.svq1_enc_inter.Settings.{Settings}
use Rattle.macroblock.specs.Slices.{Slices, Lent}
use Rattle.plane.specs.Refusals.{mid_plane}
use Rattle.plane.specs.Calls.{PlaneAnswer, write_answer, PlaneWritten, read_plane_answer, PlaneRead}
use Rattle.plane_enc.specs.Stated.{PlaneStated}
use Rattle.picture.specs.Picture.{Shared, Results, PlaneIn}
use Rattle.picture.specs.Calls.{PictureAnswer, picture_answer, PictureWritten}
use Rattle.plane_room.specs.Room.{Suffices}
use Rattle.cabunlis.specs.declared.answers.HostBytes.{HostBytes}
use Rattle.cabunlis.specs.declared.errors.HostVisible.{HostVisible}
use Rattle.cabunlis.specs.declared.pictures.HostPicture.{HostPicture}
use Rattle.cabunlis.specs.declared.planes.HostAnswer.{HostAnswer}

-- the settings by a C host's numbers: four vectors are tried unless `four` is 0
abbrev pub settings_of : ℕ → ℕ → ℕ → ℕ → Settings
settings_of lambda radius four margin = record { lambda = lambda; radius = radius; four = not (eqb four 0); margin = margin }

-- a plane call's answer as a C struct; the index is that of the macroblock met with 10, 11, 22 and 24, else 0
abbrev pub host_answer : PlaneAnswer → HostAnswer
host_answer a =
    record { refusal = a.refusal; macroblock = pick (mid_plane a.refusal) a.done 0; done = a.done; next = a.next; bits = a.bits; error = a.error }

-- the writer: r is the answer of the definition, and the slices are left as it says
pub record HostWritten (g : Given) (t : Task) (start : ℕ) (l : Lent) (r : HostAnswer) (l' : Lent) : Type 0 where
  pub answer : r ≡ host_answer (write_answer g t l.out start l.slices)
  pub left : PlaneWritten g t start l (write_answer g t l.out start l.slices) l'

-- the same with `stated`, which holds held before and what the macroblocks state after
pub record HostStated (g : Given) (t : Task) (start : ℕ) (l : Lent) (held : List ℕ) (r : HostAnswer) (l' : Lent) (stated' : List ℕ) : Type 0 where
  pub answer : r ≡ host_answer (write_answer g t l.out start l.slices)
  pub left : PlaneStated g t start l held (write_answer g t l.out start l.slices) l' stated'

-- the reader
pub record HostRead (g : Given) (bytes : List ℕ) (start : ℕ) (s : Slices) (r : HostAnswer) (s' : Slices) : Type 0 where
  pub answer : r ≡ host_answer (read_plane_answer g bytes start s)
  pub left : PlaneRead g bytes start s (read_plane_answer g bytes start s) s'

-- a picture's answer as a C struct; the index is that of the macroblock met with 22, counted through the planes, else 0
pub record PictureTold (a : PictureAnswer) (r : HostPicture) : Type 0 where
  pub refusal : r.refusal ≡ a.refusal
  pub macroblock : r.macroblock ≡ pick (mid_plane a.refusal) a.done 0
  pub done : r.done ≡ a.done
  pub planes : r.first ∷ r.second ∷ r.third ∷ [] ≡ map host_answer a.planes

-- the writer of pictures: r is the answer of the definition, and the slices are left as it says
pub record HostPictureWritten (s : Shared) (ps : List PlaneIn) (allowance : ℕ) (out : List ℕ) (start : ℕ) (r : HostPicture) (out' : List ℕ) (results' : List Results) : Type 0 where
  pub answer : PictureTold (picture_answer s ps allowance out start) r
  pub left : PictureWritten s ps allowance out start (picture_answer s ps allowance out start) out' results'

-- an answer in bytes, as a C struct
abbrev pub host_bytes : Answer ℕ → HostBytes
host_bytes (done n) = record { refusal = 0; bytes = n }
host_bytes (refused n) = record { refusal = n; bytes = 0 }

-- a room: r is the answer, and where it is no refusal its bytes suffice for every plane of the kind
pub record HostRoomTold (Kind : Given → Type 0) (answer : Answer ℕ) (r : HostBytes) : Type 0 where
  pub is : r ≡ host_bytes answer
  pub suffices : r.refusal ≡ 0 → Suffices Kind r.bytes

-- a text written: r is the answer, and every byte of the slice: the text and behind it what was there, or where the call is refused all as it was
pub record HostTextWritten (refusal : ℕ) (t out : List ℕ) (r : HostBytes) (after : List ℕ) : Type 0 where
  pub answer : r ≡ host_bytes (text_answer refusal t)
  pub left : after ≡ pick (eqb refusal 0) (put_text out 0 t) out

-- an error over what the panel shows, as a C struct
abbrev pub host_visible : Answer ℕ → HostVisible
host_visible (done e) = record { refusal = 0; error = e }
host_visible (refused n) = record { refusal = n; error = 0 }
