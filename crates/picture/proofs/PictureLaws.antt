-- Laws of a picture: three planes, one behind the other, make it.
-- Assumes nothing.
use Rattle.std.specs.Prelude.{◌≡◌, List, [], ◌∷◌, ℕ, ◌+◌, ◌-◌}
use Rattle.std.proofs.Math.Path.{sym}
use Rattle.std.proofs.Common.{ap, ◌∙◌, add-zero}
use Rattle.bits.specs.Refusals.{number_told}
use Rattle.bits.specs.Basics.{or_else}
use Rattle.bits.specs.Bits.{bits_of}
use Rattle.plane.specs.Run.{End}
use Rattle.plane.specs.Plane.{Writing}
use Rattle.plane.specs.Calls.{written_answer}
use Rattle.plane_enc.specs.declared.svq1_enc_inter.WriteEnd.{WriteEnd}
use Rattle.plane_enc.specs.WriterNeeds.{write_end_of}
use Rattle.picture.specs.Picture.{Shared, Results, PlaneIn, macroblocks, Handed, handed_by, plane_end, plane_left, hand_on, in_turn, behind_last}
use Rattle.picture.specs.Calls.{PictureAnswer, done_in, written_picture}
use Rattle.picture.specs.PictureNeeds.{end_by, PlaneThrough, PictureThrough}

-- ---- three planes
module _ (s : Shared) (a b c : PlaneIn) (out : List ℕ) (start allowance : ℕ) {r0 r1 r2 : WriteEnd} {out0 out1 out2 : List ℕ} {x0 x1 x2 : Results} {two refused : ℕ}
    (p0 : PlaneThrough s a (macroblocks (b ∷ c ∷ [])) (handed_by (bits_of out) start allowance 0) r0 out0 x0)
    (p1 : PlaneThrough s b (macroblocks (c ∷ [])) (handed_by (bits_of out0) r0.next (allowance - r0.bits) (number_told r0.refused)) r1 out1 x1)
    (so : two ≡ or_else (number_told r0.refused) (number_told r1.refused))
    (p2 : PlaneThrough s c 0 (handed_by (bits_of out1) r1.next (allowance - r0.bits - r1.bits) two) r2 out2 x2)
    (ends : refused ≡ or_else two (number_told r2.refused)) where
  abbrev ps : List PlaneIn
  ps = a ∷ b ∷ c ∷ []

  abbrev h0 : Handed
  h0 = handed_by (bits_of out) start allowance 0

  abbrev h1 : Handed
  h1 = hand_on h0 (plane_end s a (macroblocks (b ∷ c ∷ [])) h0)

  abbrev h2 : Handed
  h2 = hand_on h1 (plane_end s b (macroblocks (c ∷ [])) h1)

  one : h1 ≡ handed_by (bits_of out0) r0.next (allowance - r0.bits) (number_told r0.refused)
  one = ap (hand_on h0) p0.ended

  end1 : plane_end s b (macroblocks (c ∷ [])) h1 ≡ end_by r1 out1 x1.slices
  end1 = ap (plane_end s b (macroblocks (c ∷ []))) one ∙ p1.ended

  second : h2 ≡ handed_by (bits_of out1) r1.next (allowance - r0.bits - r1.bits) two
  second = ap (λ (h : Handed). hand_on h (plane_end s b (macroblocks (c ∷ [])) h1)) one ∙ rw (end1, so)

  end2 : plane_end s c 0 h2 ≡ end_by r2 out2 x2.slices
  end2 = ap (plane_end s c 0) second ∙ p2.ended

  last : hand_on h2 (plane_end s c 0 h2) ≡ handed_by (bits_of out2) r2.next (allowance - r0.bits - r1.bits - r2.bits) refused
  last = ap (λ (h : Handed). hand_on h (plane_end s c 0 h2)) second ∙ rw (end2, ends)

  -- the answer that three ends and a refusal make
  abbrev answer_by : End Writing → End Writing → End Writing → ℕ → PictureAnswer
  answer_by x y z n = record { refusal = n; done = x.done + (y.done + (z.done + 0)); planes = written_answer x ∷ written_answer y ∷ written_answer z ∷ [] }

  abbrev told : PictureAnswer
  told = record { refusal = refused; done = r0.done + (r1.done + r2.done); planes = write_end_of r0 ∷ write_end_of r1 ∷ write_end_of r2 ∷ [] }

  answered : told ≡ answer_by (plane_end s a (macroblocks (b ∷ c ∷ [])) h0) (plane_end s b (macroblocks (c ∷ [])) h1) (plane_end s c 0 h2) (hand_on h2 (plane_end s c 0 h2)).refusal
  answered =
      let x = end_by r0 out0 x0.slices in
      let y = end_by r1 out1 x1.slices in
      let z = end_by r2 out2 x2.slices in
      let d : r2.done + 0 ≡ r2.done = add-zero r2.done in
      let begun : told ≡ answer_by x y z refused = rw d in
      begun
      ∙ sym (ap (λ (e : End Writing). answer_by e (plane_end s b (macroblocks (c ∷ [])) h1) (plane_end s c 0 h2) (hand_on h2 (plane_end s c 0 h2)).refusal) p0.ended
      ∙ ap (λ (e : End Writing). answer_by x e (plane_end s c 0 h2) (hand_on h2 (plane_end s c 0 h2)).refusal) end1
      ∙ ap (λ (e : End Writing). answer_by x y e (hand_on h2 (plane_end s c 0 h2)).refusal) end2
      ∙ ap (λ (h : Handed). answer_by x y z h.refusal) last)

  left_there : x0 ∷ x1 ∷ x2 ∷ [] ≡ plane_left s a (macroblocks (b ∷ c ∷ [])) h0 ∷ plane_left s b (macroblocks (c ∷ [])) h1 ∷ plane_left s c 0 h2 ∷ []
  left_there =
      let y : x1 ≡ plane_left s b (macroblocks (c ∷ [])) h1 = p1.left ∙ sym (ap (plane_left s b (macroblocks (c ∷ []))) one) in
      let z : x2 ≡ plane_left s c 0 h2 = p2.left ∙ sym (ap (plane_left s c 0) second) in
      ap (λ (x : Results). x ∷ x1 ∷ x2 ∷ []) p0.left
      ∙ ap (λ (x : Results). plane_left s a (macroblocks (b ∷ c ∷ [])) h0 ∷ x ∷ x2 ∷ []) y
      ∙ ap (λ (x : Results). plane_left s a (macroblocks (b ∷ c ∷ [])) h0 ∷ plane_left s b (macroblocks (c ∷ [])) h1 ∷ x ∷ []) z

  pub three_through : PictureThrough s ps h0 told out2 (x0 ∷ x1 ∷ x2 ∷ [])
  unfolding written_picture in_turn behind_last done_in macroblocks
  three_through = record { answer = answered; left_out = sym (ap (λ (h : Handed). h.out) last); left_planes = left_there }
