-- A refused picture, by the ends that the code answers for its planes.
-- Assumes nothing.
use Rattle.std.specs.Prelude.{◌≡◌, List, [], ◌∷◌, ℕ, length}
use Rattle.bits.specs.Refusals.{number_told}
use Rattle.plane_enc.specs.declared.svq1_enc_inter.WriteEnd.{WriteEnd}
use Rattle.picture.specs.declared.inner.PictureRefusals.{PictureRefusals}
use Rattle.picture.specs.Picture.{Shared, PlaneIn}
use Rattle.picture.specs.Calls.{PictureWritten}
use Rattle.picture.specs.PictureNeeds.{picture_end_of, nothing_done}
use Rattle.picture.specs.RefusalsLaws.{ThreeTold, call_refused}

pub picture_refused : (s : Shared) (a b c : PlaneIn) (allowance : ℕ) (out : List ℕ) (start : ℕ) {r : PictureRefusals} {x y z : WriteEnd}
    → ThreeTold s a b c allowance (length out) start r → (number_told r.picture ≡ 0 → ⊥) → x ≡ nothing_done r.first → y ≡ nothing_done r.second → z ≡ nothing_done r.third
    → PictureWritten s (a ∷ b ∷ c ∷ []) allowance out start (picture_end_of (record { refused = r.picture; done = 0; first = x; second = y; third = z })) out (a.results ∷ b.results ∷ c.results ∷ [])
picture_refused s a b c allowance out start t h e f g = rw (e, f, g) (call_refused s a b c allowance out start t h)
