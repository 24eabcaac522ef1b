-- Refused, or written as far as it goes. Assumes nothing.
use mathlib.Core.Path.{sym, ◌∙◌}
use Rattle.bits.specs.CallsLaws.{told_none, told_some}
use Rattle.picture.specs.Picture.{Shared, shared_by, PlaneIn, plane_by, results_by}
use Rattle.picture.specs.RefusalsLaws.{refusal_of_three, call_written}
use Rattle.picture_enc.specs.RefusedLaws.{picture_refused}
use mathlib.Core.List.{[], ◌∷◌}
use lib.ListN.{length}
use Rattle.picture_enc.proofs.encode_picture.Goals as goal

pub returns-then-is_some : goal.returns-then-is_some
returns-then-is_some c =
    let a = c.args in
    let s : Shared = shared_by a.book.now a.codebook.now a.settings in
    let p0 : PlaneIn = plane_by a.canvas0 a.source0.now a.reference0.now (results_by a.recon0.now a.vx0.now a.vy0.now a.stated0.now) in
    let p1 : PlaneIn = plane_by a.canvas1 a.source1.now a.reference1.now (results_by a.recon1.now a.vx1.now a.vy1.now a.stated1.now) in
    let p2 : PlaneIn = plane_by a.canvas2 a.source2.now a.reference2.now (results_by a.recon2.now a.vx2.now a.vy2.now a.stated2.now) in
    picture_refused s p0 p1 p2 a.allowance a.out.now a.start c.picture_refusals-told.ensures (told_some _ (sym c.is_some.ensures ∙ c.if-is_some.true)) c.nothing_done.ensures c.nothing_done-then-is_some.ensures c.nothing_done-then-is_some-2.ensures

pub write_planes-requires : goal.write_planes-requires
write_planes-requires c =
    let a = c.args in
    let s : Shared = shared_by a.book.now a.codebook.now a.settings in
    let p0 : PlaneIn = plane_by a.canvas0 a.source0.now a.reference0.now (results_by a.recon0.now a.vx0.now a.vy0.now a.stated0.now) in
    let p1 : PlaneIn = plane_by a.canvas1 a.source1.now a.reference1.now (results_by a.recon1.now a.vx1.now a.vy1.now a.stated1.now) in
    let p2 : PlaneIn = plane_by a.canvas2 a.source2.now a.reference2.now (results_by a.recon2.now a.vx2.now a.vy2.now a.stated2.now) in
    sym (refusal_of_three s p0 p1 p2 a.allowance (length a.out.now) a.start c.picture_refusals-told.ensures) ∙ told_none _ (sym c.is_some.ensures ∙ c.if-is_some.false)

pub shape_of-out : goal.shape_of-out
shape_of-out c = c.out-1.given

pub shape_of-recon0 : goal.shape_of-recon0
shape_of-recon0 c = c.recon0-1.given

pub shape_of-vx0 : goal.shape_of-vx0
shape_of-vx0 c = c.vx0-1.given

pub shape_of-vy0 : goal.shape_of-vy0
shape_of-vy0 c = c.vy0-1.given

pub shape_of-stated0 : goal.shape_of-stated0
shape_of-stated0 c = c.stated0-1.given

pub shape_of-recon1 : goal.shape_of-recon1
shape_of-recon1 c = c.recon1-1.given

pub shape_of-vx1 : goal.shape_of-vx1
shape_of-vx1 c = c.vx1-1.given

pub shape_of-vy1 : goal.shape_of-vy1
shape_of-vy1 c = c.vy1-1.given

pub shape_of-stated1 : goal.shape_of-stated1
shape_of-stated1 c = c.stated1-1.given

pub shape_of-recon2 : goal.shape_of-recon2
shape_of-recon2 c = c.recon2-1.given

pub shape_of-vx2 : goal.shape_of-vx2
shape_of-vx2 c = c.vx2-1.given

pub shape_of-vy2 : goal.shape_of-vy2
shape_of-vy2 c = c.vy2-1.given

pub shape_of-stated2 : goal.shape_of-stated2
shape_of-stated2 c = c.stated2-1.given

pub returns : goal.returns
returns c =
    let a = c.args in
    let s : Shared = shared_by a.book.now a.codebook.now a.settings in
    let p0 : PlaneIn = plane_by a.canvas0 a.source0.now a.reference0.now (results_by a.recon0.now a.vx0.now a.vy0.now a.stated0.now) in
    let p1 : PlaneIn = plane_by a.canvas1 a.source1.now a.reference1.now (results_by a.recon1.now a.vx1.now a.vy1.now a.stated1.now) in
    let p2 : PlaneIn = plane_by a.canvas2 a.source2.now a.reference2.now (results_by a.recon2.now a.vx2.now a.vy2.now a.stated2.now) in
    call_written s (p0 ∷ p1 ∷ p2 ∷ []) a.allowance a.out.now a.start
    (sym (refusal_of_three s p0 p1 p2 a.allowance (length a.out.now) a.start c.picture_refusals-told.ensures) ∙ told_none _ (sym c.is_some.ensures ∙ c.if-is_some.false)) c.write_planes.ensures
