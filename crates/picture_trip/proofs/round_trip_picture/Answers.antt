-- The picture written, its planes read, and the claim of what they leave. Assumes nothing.
use mathlib.Core.List.{[], ◌∷◌}
use native.Mathlib.Omega.{arith}
use Rattle.bits.specs.Basics.{Bytes}
use Rattle.picture.specs.Picture.{Shared, shared_by}
use Rattle.picture_trip.specs.PictureTrip.{EachRead}
use Rattle.picture_trip.specs.PictureTripLaws.{picture_tripped}
use Rattle.picture_trip.proofs.round_trip_picture.Goals as goal

pub returns : goal.returns
unfolding EachRead
returns c =
    let a = c.args in
    let s : Shared = shared_by a.book.now a.codebook.now a.settings in
    let b0 : Bytes a.source0.now = λ k. omega (arith, c.shared_slice_known-1.given k) in
    let b1 : Bytes a.reference0.now = λ k. omega (arith, c.shared_slice_known-2-1.given k) in
    let b2 : Bytes a.source1.now = λ k. omega (arith, c.shared_slice_known-3-1.given k) in
    let b3 : Bytes a.reference1.now = λ k. omega (arith, c.shared_slice_known-4-1.given k) in
    let b4 : Bytes a.source2.now = λ k. omega (arith, c.shared_slice_known-5-1.given k) in
    let b5 : Bytes a.reference2.now = λ k. omega (arith, c.shared_slice_known-6-1.given k) in
    picture_tripped s (_ ∷ _ ∷ _ ∷ []) a.allowance a.out.now a.start _ _ _ c.out-1.given ((b0, b1), ((b2, b3), ((b4, b5), tt))) c.encode_picture-written.ensures
    (c.read_planes-read.ensures.0, (c.read_planes-read.ensures.1, (c.read_planes-read.ensures.2, tt)))
