-- A picture as a call: its answer, and every byte that it leaves (document 02, §5).
use Rattle.std.specs.Prelude.{ℕ, ◌+◌, List, [], ◌∷◌, map, ◌≡◌, eqb, length}
use Rattle.bits.specs.Basics.{pick, or_else}
use Rattle.bits.specs.Bits.{bits_of}
use Rattle.plane.specs.Calls.{PlaneAnswer, refused_answer, written_answer}
use Rattle.picture.specs.Picture.{Shared, Results, PlaneIn, Handed, handed_by, plane_end, plane_left, in_turn, behind_last}
use Rattle.picture.specs.Refusals.{plane_refusal, picture_refusal}

-- the refusal, 0 for none; the macroblocks done in all planes, which with 22 is the index of the one that does not fit, counted through the planes; and for each plane what a plane call answers
pub record PictureAnswer : Type 0 where
  pub refusal : ℕ
  pub done : ℕ
  pub planes : List PlaneAnswer

unfoldable pub done_in : List PlaneAnswer → ℕ
done_in [] = 0
done_in (a ∷ rest) = a.done + done_in rest

-- written as far as it goes
unfoldable pub written_picture : Shared → List PlaneIn → Handed → PictureAnswer
written_picture s ps h =
    let planes = in_turn s (λ p behind i. written_answer (plane_end s p behind i)) ps h in
    record { refusal = (behind_last s ps h).refusal; done = done_in planes; planes = planes }

-- in a refused picture nothing is done: the plane whose checks met the refusal answers it, the others, and with 31 all, that nothing is done
unfoldable pub refused_planes : ℕ → List ℕ → List PlaneAnswer
refused_planes before [] = []
refused_planes before (n ∷ ns) = refused_answer (pick (eqb before 0) n 0) ∷ refused_planes (or_else before n) ns

abbrev pub refused_picture : ℕ → List ℕ → PictureAnswer
refused_picture n checks = record { refusal = n; done = 0; planes = refused_planes 0 checks }

-- what the first plane is handed
abbrev pub begin : ℕ → List ℕ → ℕ → Handed
begin allowance out start = handed_by (bits_of out) start allowance 0

module _ (s : Shared) (ps : List PlaneIn) (allowance : ℕ) (out : List ℕ) (start : ℕ) where
  abbrev pub refusal_here : ℕ
  refusal_here = picture_refusal s ps allowance (length out) start

  -- what the call answers, the output's bits, and each plane's slices; a refused call leaves all as it was
  unfoldable pub picture_answer : PictureAnswer
  picture_answer = pick (eqb refusal_here 0) (written_picture s ps (begin allowance out start)) (refused_picture refusal_here (map (plane_refusal s (length out) start) ps))

  unfoldable pub picture_out : List ℕ
  picture_out = pick (eqb refusal_here 0) (behind_last s ps (begin allowance out start)).out (bits_of out)

  unfoldable pub picture_left : List Results
  picture_left = pick (eqb refusal_here 0) (in_turn s (plane_left s) ps (begin allowance out start)) (map (λ p. p.results) ps)

-- what a call meets: r is its answer, out' what it leaves of out, left what it leaves in the planes' slices
pub record PictureWritten (s : Shared) (ps : List PlaneIn) (allowance : ℕ) (out : List ℕ) (start : ℕ) (r : PictureAnswer) (out' : List ℕ) (left : List Results) : Type 0 where
  pub answer : r ≡ picture_answer s ps allowance out start
  pub left_out : bits_of out' ≡ picture_out s ps allowance out start
  pub left_planes : left ≡ picture_left s ps allowance out start
