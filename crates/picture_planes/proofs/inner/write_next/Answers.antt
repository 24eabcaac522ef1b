-- Written, or not reached. Assumes nothing.
use Rattle.std.proofs.Common.{sym, ◌∙◌}
use Rattle.bits.specs.CallsLaws.{told_none, told_some}
use Rattle.bits.specs.Refusals.{number_told}
use Rattle.picture.specs.Picture.{Shared, shared_by, PlaneIn, plane_by, results_by}
use Rattle.picture.specs.PictureLaws.{through_unreached, through_reached}
use Rattle.picture_planes.proofs.inner.write_next.Goals as goal

pub returns-then-is_some : goal.returns-then-is_some
returns-then-is_some c =
    let a = c.args in
    let s : Shared = shared_by a.book.now a.codebook.now a.settings in
    let p : PlaneIn = plane_by a.canvas a.source.now a.reference.now (results_by a.recon.now a.vx.now a.vy.now a.stated.now) in
    through_unreached s p a.behind a.out.now a.start a.remaining (number_told a.before) (told_some _ (sym c.is_some.ensures ∙ c.if-is_some.true))

pub write_accepted-requires : goal.write_accepted-requires
write_accepted-requires c = let r = c.requires in (r.plane, r.samples, r.spends)

pub shape_of-out : goal.shape_of-out
shape_of-out c = c.out-1.given

pub shape_of-recon : goal.shape_of-recon
shape_of-recon c = c.recon-1.given

pub shape_of-vx : goal.shape_of-vx
shape_of-vx c = c.vx-1.given

pub shape_of-vy : goal.shape_of-vy
shape_of-vy c = c.vy-1.given

pub shape_of-stated : goal.shape_of-stated
shape_of-stated c = c.stated-1.given

pub returns : goal.returns
returns c =
    let a = c.args in
    let s : Shared = shared_by a.book.now a.codebook.now a.settings in
    let p : PlaneIn = plane_by a.canvas a.source.now a.reference.now (results_by a.recon.now a.vx.now a.vy.now a.stated.now) in
    through_reached s p a.behind a.out.now a.start a.remaining (number_told a.before) (told_none _ (sym c.is_some.ensures ∙ c.if-is_some.false)) _ _ _ _ c.write_accepted.ensures
