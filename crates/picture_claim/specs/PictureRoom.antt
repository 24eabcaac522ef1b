-- The room that always suffices for a picture. The documents have no rule for it; it follows from the room of a plane and from the allowance (refusals 22 and 31).
use Rattle.std.specs.Prelude.{ℕ, ◌+◌, List, [], ◌∷◌, ◌≡◌, length}
use Rattle.plane_room.specs.Room.{room_bytes}
use Rattle.picture.specs.Picture.{Shared, PlaneIn, canvas_blocks, macroblocks, plane_end}
use Rattle.picture.specs.Refusals.{picture_refusal}
use Rattle.picture.specs.Calls.{begin, picture_answer}
use Rattle.picture_claim.specs.PictureClaim.{EachPlane}

-- the bytes of each plane together, with so many bits a macroblock
unfoldable pub picture_room : ℕ → List PlaneIn → ℕ
picture_room bits [] = 0
picture_room bits (p ∷ ps) = room_bytes bits (canvas_blocks p.canvas) + picture_room bits ps

-- each plane is written to its last macroblock, and the call answers that
pub record PictureWhole (s : Shared) (ps : List PlaneIn) (allowance : ℕ) (out : List ℕ) (start : ℕ) : Type 0 where
  pub each : EachPlane (λ p behind h. ((plane_end s p behind h).refusal ≡ 0) × ((plane_end s p behind h).done ≡ canvas_blocks p.canvas)) s ps (begin allowance out start)
  pub answer_refusal : (picture_answer s ps allowance out start).refusal ≡ 0
  pub answer_done : (picture_answer s ps allowance out start).done ≡ macroblocks ps

-- what a call with room answers: a refusal for what is lent or none, and never 22; where there is none, the picture is written whole
pub record PictureHasRoom (s : Shared) (ps : List PlaneIn) (allowance : ℕ) (out : List ℕ) (start : ℕ) : Type 0 where
  pub told : (picture_answer s ps allowance out start).refusal ≡ picture_refusal s ps allowance (length out) start
  pub never_22 : (picture_answer s ps allowance out start).refusal ≡ 22 → ⊥
  pub whole : picture_refusal s ps allowance (length out) start ≡ 0 → PictureWhole s ps allowance out start
