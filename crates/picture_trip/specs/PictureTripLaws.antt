-- The claim holds of a picture written and read back in memory.
-- Assumes nothing.
use Rattle.std.specs.Prelude.{◌≡◌, refl, length, take}
use Rattle.std.proofs.Math.Path.{sym, ap}
use Rattle.std.proofs.Common.{◌∙◌, eq-eqb}
use mathlib.Core.List.{List, [], ◌∷◌, map}
use Prim.Native.Nat.{ℕ, ◌≤◌}
use Rattle.bits.specs.BasicsLaws.{or_next}
use Rattle.bits.specs.Bits.{bits_of}
use Rattle.bits.specs.Calls.{start_refusal}
use Rattle.plan.specs.PlanClaim.{largest_lambda}
use Rattle.macroblock.specs.Macroblock.{Given}
use Rattle.macroblock.specs.Choice.{Task}
use Rattle.plane.specs.Run.{End}
use Rattle.plane.specs.Plane.{Writing}
use Rattle.plane.specs.Refusals.{slices_refusal}
use Rattle.plane.specs.RefusalsLaws.{results_pass}
use Rattle.plane.specs.Calls.{PlaneAnswer, PlaneRead, written_answer}
use Rattle.claim.specs.Claim.{state_at}
use Rattle.claim.specs.RoundTrip.{Returned}
use Rattle.claim.specs.RoundTripLaws.{comes_back}
use Rattle.picture.specs.Picture.{Shared, Results, PlaneIn, plane_given, macroblocks, Handed, plane_task, plane_end, plane_left, hand_on, in_turn}
use Rattle.picture.specs.Refusals.{picture_refusal}
use Rattle.picture.specs.Calls.{PictureAnswer, begin, written_picture, picture_answer, picture_out, picture_left, PictureWritten}
use Rattle.picture.specs.PictureLaws.{is_reached_lem}
use Rattle.picture_claim.specs.PictureClaim.{EachPlane, PictureInMemory, PlaneClaim, last_handed}
use Rattle.picture_claim.specs.PictureClaimLaws.{picture_claimed}
use Rattle.picture_trip.specs.PictureTrip.{PlaneTrip, EachRead, EachReturned, PictureTaken, PictureTrip}

abbrev planes_of : List PlaneTrip → List PlaneIn
planes_of xs = map (λ x. x.plane) xs

abbrev answer_of : Shared → PlaneIn → ℕ → Handed → PlaneAnswer
answer_of s p behind h = written_answer (plane_end s p behind h)

-- ---- planes, one after the other
module _ (s : Shared) (bytes : ℕ) (last : Handed) (out' : List ℕ) (same : length out' ≡ bytes) (put : bits_of out' ≡ last.out) (most : s.settings.lambda ≤ largest_lambda) where
  module _ (x : PlaneTrip) (behind : ℕ) (h : Handed) (reached : h.refusal ≡ 0) (claim : PlaneClaim s bytes last x.plane behind h)
      (wrote : x.wrote ≡ answer_of s x.plane behind h) (left : x.left ≡ plane_left s x.plane behind h) (read : PlaneRead (plane_given s x.plane) out' h.next x.back x.read x.left_back) where
    abbrev g : Given
    g = plane_given s x.plane

    abbrev t : Task
    t = plane_task s x.plane behind h

    one_back : x.wrote.refusal ≡ 0 → slices_refusal g x.back ≡ 0 → Returned g x.wrote x.read x.left.slices x.back x.left_back
    unfolding plane_left
    one_back z fits =
        let ends : (plane_end s x.plane behind h).refusal ≡ 0 = sym (ap (λ (a : PlaneAnswer). a.refusal) wrote) ∙ z in
        let whole = is_reached_lem s x.plane behind h reached ∙ (claim.claim ends most).reaches in
        let starts : start_refusal (length out') h.next ≡ 0 = rw same (results_pass g x.plane.results.slices bytes h.next (length x.plane.source) claim.accepted).1 in
        comes_back g out' h.next x.back (state_at g t h.out h.next x.plane.results.slices)
        (claim.read_back ends most out' x.back (ap (take last.next) put) starts fits) x.read x.left_back read x.wrote x.left.slices
        (ap (λ (a : PlaneAnswer). a.done) wrote ∙ ap (λ (e : End Writing). e.done) whole)
        (ap (λ (a : PlaneAnswer). a.next) wrote ∙ ap (λ (e : End Writing). e.state.next) whole)
        (ap (λ (r : Results). r.slices) left ∙ ap (λ (e : End Writing). e.state.slices) whole)

  each_back : (xs : List PlaneTrip) (h : Handed) → h.refusal ≡ 0 → EachPlane (λ p behind i. i.refusal ≡ 0 → PlaneClaim s bytes last p behind i) s (planes_of xs) h
      → map (λ x. x.wrote) xs ≡ in_turn s (answer_of s) (planes_of xs) h → map (λ x. x.left) xs ≡ in_turn s (plane_left s) (planes_of xs) h → EachRead s out' h.next xs → EachReturned s xs
  unfolding EachPlane in_turn EachRead EachReturned
  each_back [] h z claims wrote left read = tt
  each_back (x ∷ xs) h z claims wrote left read =
      let behind : ℕ = macroblocks (planes_of xs) in
      let wrote_one : x.wrote ≡ answer_of s x.plane behind h = cc in
      let wrote-rest : map (λ x. x.wrote) xs ≡ in_turn s (answer_of s) (planes_of xs) (hand_on h (plane_end s x.plane behind h)) = cc in
      let left_one : x.left ≡ plane_left s x.plane behind h = cc in
      let left-rest : map (λ x. x.left) xs ≡ in_turn s (plane_left s) (planes_of xs) (hand_on h (plane_end s x.plane behind h)) = cc in
      let next : x.wrote.next ≡ (plane_end s x.plane behind h).state.next = ap (λ (a : PlaneAnswer). a.next) wrote_one in (
        one_back x behind h z (claims.0 z) wrote_one left_one read.0,
        λ ends.
            each_back xs (hand_on h (plane_end s x.plane behind h))
            (or_next h.refusal (plane_end s x.plane behind h).refusal z ∙ sym (ap (λ (a : PlaneAnswer). a.refusal) wrote_one) ∙ ends)
            claims.1 wrote-rest left-rest (rw next at read.1),
      )

-- ---- the picture
module _ (s : Shared) (xs : List PlaneTrip) (allowance : ℕ) (out : List ℕ) (start refusal done : ℕ) (out' : List ℕ) (same : length out' ≡ length out) (mem : PictureInMemory (planes_of xs))
    (wrote : PictureWritten s (planes_of xs) allowance out start (record { refusal = refusal; done = done; planes = map (λ x. x.wrote) xs }) out' (map (λ x. x.left) xs)) (read : EachRead s out' start xs) where
  module _ (taken : PictureTaken s xs allowance out start) where
    abbrev h : Handed
    h = begin allowance out start

    abbrev n : ℕ
    n = picture_refusal s (planes_of xs) allowance (length out) start

    answers : map (λ x. x.wrote) xs ≡ in_turn s (answer_of s) (planes_of xs) h
    unfolding picture_answer written_picture
    answers = ap (λ (a : PictureAnswer). a.planes) wrote.answer ∙ rw (eq-eqb n 0 taken)

    lefts : map (λ x. x.left) xs ≡ in_turn s (plane_left s) (planes_of xs) h
    unfolding picture_left
    lefts = wrote.left_planes ∙ rw (eq-eqb n 0 taken)

    put : bits_of out' ≡ (last_handed s (planes_of xs) allowance out start).out
    unfolding picture_out
    put = wrote.left_out ∙ rw (eq-eqb n 0 taken)

    back : s.settings.lambda ≤ largest_lambda → EachReturned s xs
    back most = each_back s (length out) (last_handed s (planes_of xs) allowance out start) out' same put most xs h refl (picture_claimed s (planes_of xs) allowance out start taken mem).each answers lefts read

  pub picture_tripped : PictureTrip s xs allowance out start refusal done out'
  picture_tripped = record { wrote = wrote; read = read; claim = λ e. picture_claimed s (planes_of xs) allowance out start e mem; returned = λ e most. back e most }
