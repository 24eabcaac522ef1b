-- Three planes, one behind the other. Assumes nothing.
use mathlib.Core.Path.{◌∙◌}
use native.Mathlib.Omega.{arith}
use Rattle.picture.specs.Picture.{Shared, shared_by, PlaneIn, plane_by, results_by}
use Rattle.picture.specs.RefusalsLaws.{few_blocks}
use Rattle.picture_planes.specs.PlanesLaws.{small1, small2, ready_first, spent_first, ready_second, spent_second, ready_third, few_done, planes_through}
use Rattle.picture_planes.proofs.inner.write_planes.Goals as goal

pub blocks_of-last-requires : goal.blocks_of-last-requires
blocks_of-last-requires c =
    let a = c.args in
    let s : Shared = shared_by a.book.now a.codebook.now a.settings in
    let p0 : PlaneIn = plane_by a.canvas0 a.source0.now a.reference0.now (results_by a.recon0.now a.vx0.now a.vy0.now a.stated0.now) in
    let p1 : PlaneIn = plane_by a.canvas1 a.source1.now a.reference1.now (results_by a.recon1.now a.vx1.now a.vy1.now a.stated1.now) in
    let p2 : PlaneIn = plane_by a.canvas2 a.source2.now a.reference2.now (results_by a.recon2.now a.vx2.now a.vy2.now a.stated2.now) in
    small2 s p0 p1 p2 a.out.now a.start a.allowance c.requires

pub blocks_of-requires : goal.blocks_of-requires
blocks_of-requires c =
    let a = c.args in
    let s : Shared = shared_by a.book.now a.codebook.now a.settings in
    let p0 : PlaneIn = plane_by a.canvas0 a.source0.now a.reference0.now (results_by a.recon0.now a.vx0.now a.vy0.now a.stated0.now) in
    let p1 : PlaneIn = plane_by a.canvas1 a.source1.now a.reference1.now (results_by a.recon1.now a.vx1.now a.vy1.now a.stated1.now) in
    let p2 : PlaneIn = plane_by a.canvas2 a.source2.now a.reference2.now (results_by a.recon2.now a.vx2.now a.vy2.now a.stated2.now) in
    small1 s p0 p1 p2 a.out.now a.start a.allowance c.requires

pub overflow_add-behind : goal.overflow_add-behind
overflow_add-behind c =
    let a = c.args in
    let s : Shared = shared_by a.book.now a.codebook.now a.settings in
    let p0 : PlaneIn = plane_by a.canvas0 a.source0.now a.reference0.now (results_by a.recon0.now a.vx0.now a.vy0.now a.stated0.now) in
    let p1 : PlaneIn = plane_by a.canvas1 a.source1.now a.reference1.now (results_by a.recon1.now a.vx1.now a.vy1.now a.stated1.now) in
    let p2 : PlaneIn = plane_by a.canvas2 a.source2.now a.reference2.now (results_by a.recon2.now a.vx2.now a.vy2.now a.stated2.now) in
    omega (arith, few_blocks a.canvas1 (small1 s p0 p1 p2 a.out.now a.start a.allowance c.requires), few_blocks a.canvas2 (small2 s p0 p1 p2 a.out.now a.start a.allowance c.requires), c.blocks_of-last.ensures, c.blocks_of.ensures)

pub write_next-first-requires : goal.write_next-first-requires
write_next-first-requires c =
    let a = c.args in
    let s : Shared = shared_by a.book.now a.codebook.now a.settings in
    let p0 : PlaneIn = plane_by a.canvas0 a.source0.now a.reference0.now (results_by a.recon0.now a.vx0.now a.vy0.now a.stated0.now) in
    let p1 : PlaneIn = plane_by a.canvas1 a.source1.now a.reference1.now (results_by a.recon1.now a.vx1.now a.vy1.now a.stated1.now) in
    let p2 : PlaneIn = plane_by a.canvas2 a.source2.now a.reference2.now (results_by a.recon2.now a.vx2.now a.vy2.now a.stated2.now) in
    ready_first s p0 p1 p2 a.out.now a.start a.allowance c.requires c.blocks_of-last.ensures c.blocks_of.ensures

pub overflow_sub-remaining : goal.overflow_sub-remaining
overflow_sub-remaining c =
    let a = c.args in
    let s : Shared = shared_by a.book.now a.codebook.now a.settings in
    let p0 : PlaneIn = plane_by a.canvas0 a.source0.now a.reference0.now (results_by a.recon0.now a.vx0.now a.vy0.now a.stated0.now) in
    let p1 : PlaneIn = plane_by a.canvas1 a.source1.now a.reference1.now (results_by a.recon1.now a.vx1.now a.vy1.now a.stated1.now) in
    let p2 : PlaneIn = plane_by a.canvas2 a.source2.now a.reference2.now (results_by a.recon2.now a.vx2.now a.vy2.now a.stated2.now) in
    omega (arith, spent_first s p0 p1 p2 a.out.now a.start a.allowance c.requires c.blocks_of-last.ensures c.blocks_of.ensures c.write_next-first.ensures)

pub write_next-second-requires : goal.write_next-second-requires
write_next-second-requires c =
    let a = c.args in
    let s : Shared = shared_by a.book.now a.codebook.now a.settings in
    let p0 : PlaneIn = plane_by a.canvas0 a.source0.now a.reference0.now (results_by a.recon0.now a.vx0.now a.vy0.now a.stated0.now) in
    let p1 : PlaneIn = plane_by a.canvas1 a.source1.now a.reference1.now (results_by a.recon1.now a.vx1.now a.vy1.now a.stated1.now) in
    let p2 : PlaneIn = plane_by a.canvas2 a.source2.now a.reference2.now (results_by a.recon2.now a.vx2.now a.vy2.now a.stated2.now) in
    ready_second s p0 p1 p2 a.out.now a.start a.allowance c.requires c.blocks_of-last.ensures c.blocks_of.ensures c.write_next-first.ensures c.out-1.given

pub overflow_sub-remaining-2 : goal.overflow_sub-remaining-2
overflow_sub-remaining-2 c =
    let a = c.args in
    let s : Shared = shared_by a.book.now a.codebook.now a.settings in
    let p0 : PlaneIn = plane_by a.canvas0 a.source0.now a.reference0.now (results_by a.recon0.now a.vx0.now a.vy0.now a.stated0.now) in
    let p1 : PlaneIn = plane_by a.canvas1 a.source1.now a.reference1.now (results_by a.recon1.now a.vx1.now a.vy1.now a.stated1.now) in
    let p2 : PlaneIn = plane_by a.canvas2 a.source2.now a.reference2.now (results_by a.recon2.now a.vx2.now a.vy2.now a.stated2.now) in
    omega (arith, spent_second s p0 p1 p2 a.out.now a.start a.allowance c.requires c.blocks_of-last.ensures c.blocks_of.ensures c.write_next-first.ensures c.write_next-second.ensures)

pub write_next-third-requires : goal.write_next-third-requires
write_next-third-requires c =
    let a = c.args in
    let s : Shared = shared_by a.book.now a.codebook.now a.settings in
    let p0 : PlaneIn = plane_by a.canvas0 a.source0.now a.reference0.now (results_by a.recon0.now a.vx0.now a.vy0.now a.stated0.now) in
    let p1 : PlaneIn = plane_by a.canvas1 a.source1.now a.reference1.now (results_by a.recon1.now a.vx1.now a.vy1.now a.stated1.now) in
    let p2 : PlaneIn = plane_by a.canvas2 a.source2.now a.reference2.now (results_by a.recon2.now a.vx2.now a.vy2.now a.stated2.now) in
    ready_third s p0 p1 p2 a.out.now a.start a.allowance c.requires c.blocks_of-last.ensures c.blocks_of.ensures c.write_next-first.ensures c.write_next-second.ensures c.first_of-two.ensures (c.out-2-1.given ∙ c.out-1.given)

pub overflow_add-result : goal.overflow_add-result
overflow_add-result c =
    let a = c.args in
    let s : Shared = shared_by a.book.now a.codebook.now a.settings in
    let p0 : PlaneIn = plane_by a.canvas0 a.source0.now a.reference0.now (results_by a.recon0.now a.vx0.now a.vy0.now a.stated0.now) in
    let p1 : PlaneIn = plane_by a.canvas1 a.source1.now a.reference1.now (results_by a.recon1.now a.vx1.now a.vy1.now a.stated1.now) in
    let p2 : PlaneIn = plane_by a.canvas2 a.source2.now a.reference2.now (results_by a.recon2.now a.vx2.now a.vy2.now a.stated2.now) in
    omega (arith, (few_done s p0 p1 p2 a.out.now a.start a.allowance c.requires c.blocks_of-last.ensures c.blocks_of.ensures c.write_next-first.ensures c.write_next-second.ensures c.first_of-two.ensures c.write_next-third.ensures).0)

pub overflow_add-result-2 : goal.overflow_add-result-2
overflow_add-result-2 c =
    let a = c.args in
    let s : Shared = shared_by a.book.now a.codebook.now a.settings in
    let p0 : PlaneIn = plane_by a.canvas0 a.source0.now a.reference0.now (results_by a.recon0.now a.vx0.now a.vy0.now a.stated0.now) in
    let p1 : PlaneIn = plane_by a.canvas1 a.source1.now a.reference1.now (results_by a.recon1.now a.vx1.now a.vy1.now a.stated1.now) in
    let p2 : PlaneIn = plane_by a.canvas2 a.source2.now a.reference2.now (results_by a.recon2.now a.vx2.now a.vy2.now a.stated2.now) in
    omega (arith, (few_done s p0 p1 p2 a.out.now a.start a.allowance c.requires c.blocks_of-last.ensures c.blocks_of.ensures c.write_next-first.ensures c.write_next-second.ensures c.first_of-two.ensures c.write_next-third.ensures).1)

pub shape_of-out : goal.shape_of-out
shape_of-out c = c.out-3-1.given ∙ c.out-2-1.given ∙ c.out-1.given

pub shape_of-recon0 : goal.shape_of-recon0
shape_of-recon0 c = c.recon0-1.given

pub shape_of-vx0 : goal.shape_of-vx0
shape_of-vx0 c = c.vx0-1.given

pub shape_of-vy0 : goal.shape_of-vy0
shape_of-vy0 c = c.vy0-1.given

pub shape_of-stated0 : goal.shape_of-stated0
shape_of-stated0 c = c.stated0-1.given

pub shape_of-recon1 : goal.shape_of-recon1
shape_of-recon1 c = c.recon1-1.given

pub shape_of-vx1 : goal.shape_of-vx1
shape_of-vx1 c = c.vx1-1.given

pub shape_of-vy1 : goal.shape_of-vy1
shape_of-vy1 c = c.vy1-1.given

pub shape_of-stated1 : goal.shape_of-stated1
shape_of-stated1 c = c.stated1-1.given

pub shape_of-recon2 : goal.shape_of-recon2
shape_of-recon2 c = c.recon2-1.given

pub shape_of-vx2 : goal.shape_of-vx2
shape_of-vx2 c = c.vx2-1.given

pub shape_of-vy2 : goal.shape_of-vy2
shape_of-vy2 c = c.vy2-1.given

pub shape_of-stated2 : goal.shape_of-stated2
shape_of-stated2 c = c.stated2-1.given

pub returns : goal.returns
returns c =
    let a = c.args in
    let s : Shared = shared_by a.book.now a.codebook.now a.settings in
    let p0 : PlaneIn = plane_by a.canvas0 a.source0.now a.reference0.now (results_by a.recon0.now a.vx0.now a.vy0.now a.stated0.now) in
    let p1 : PlaneIn = plane_by a.canvas1 a.source1.now a.reference1.now (results_by a.recon1.now a.vx1.now a.vy1.now a.stated1.now) in
    let p2 : PlaneIn = plane_by a.canvas2 a.source2.now a.reference2.now (results_by a.recon2.now a.vx2.now a.vy2.now a.stated2.now) in
    planes_through s p0 p1 p2 a.out.now a.start a.allowance c.requires c.blocks_of-last.ensures c.blocks_of.ensures c.write_next-first.ensures c.write_next-second.ensures c.first_of-two.ensures c.write_next-third.ensures c.first_of.ensures
