-- The first s times i samples of the part are put; a row of them is one run of the output and one of the canvas.
use Rattle.std.proofs.Common.{◌≡◌, ◌∙◌, ap, ℕ, ◌+◌, ◌*◌, ◌/◌, ◌%◌, ◌≤◌, length, arith}
use Rattle.canvas.specs.Canvas.{Canvas}
use Rattle.mv_cache.specs.PutLaws.{put_to}
use Rattle.compensation.specs.InsideLaws.{cell_values, part-begin, part_next, part_end, row_place, row_read}
use Rattle.compensation.proofs.svq1_mc.inner.part_inside.Goals as goal
use Rattle.compensation.proofs.svq1_mc.inner.part_inside.Goals.{In-loop-i}

-- a row's places: its run in the output, and its run in the canvas
row : (c : In-loop-i)
    → ((c.args.q / c.args.cols * c.args.s + c.loop-i.i) * (c.args.s * c.args.cols) + c.args.q % c.args.cols * c.args.s + c.args.s ≤ 256)
    × ((c.args.y0 + c.loop-i.i) * c.args.stride + c.args.x0 + c.args.oy * c.args.stride + c.args.ox + c.args.s ≤ length c.args.reference.now)
row c =
    let a = c.args in
    let r = c.requires in
    let d : Canvas = record { samples = a.reference.now; stride = a.stride; rows = a.rows } in
    let i = c.loop-i.i in
    let h = c.loop-i-test.true in (
      row_place d a.ox a.oy a.x0 a.y0 a.s a.cols a.q r.1 i h,
      row_read d a.ox a.oy a.x0 a.y0 a.s a.cols a.q r.1 i h r.0,
    )

pub loop-i-init : goal.loop-i-init
loop-i-init c =
    let a = c.args in
    let r = c.requires in
    let d : Canvas = record { samples = a.reference.now; stride = a.stride; rows = a.rows } in
    part-begin d a.ox a.oy a.x0 a.y0 a.s a.cols a.q r.1 _

pub overflow_add-o-in-loop-i : goal.overflow_add-o-in-loop-i
overflow_add-o-in-loop-i c = omega (arith, row c)

pub part_row-requires : goal.part_row-requires
part_row-requires c =
    let r = c.requires.0 in
    let f = row (goal.at.part_row-requires c).In-loop-i in
    (f.0, r.ox_bit, r.oy_bit, f.1)

pub loop-i-preserved : goal.loop-i-preserved
loop-i-preserved c =
    let a = c.args in
    let r = c.requires in
    let d : Canvas = record { samples = a.reference.now; stride = a.stride; rows = a.rows } in
    part_next d a.ox a.oy a.x0 a.y0 a.s a.cols a.q r.1 c.loop-i.i _ _ _ c.loop-i-test.true c.loop-i.invariant c.part_row.ensures

pub returns : goal.returns
returns c =
    let a = c.args in
    let r = c.requires in
    let d : Canvas = record { samples = a.reference.now; stride = a.stride; rows = a.rows } in
    let l = c.loop-i in
    let e : l.i ≡ a.s = omega arith in
    l.invariant
    ∙ ap (λ (m : ℕ). put_to a.s a.cols a.q (cell_values d a.ox a.oy a.x0 a.y0 a.s a.cols a.q r.1) (a.s * m) a.out.now) e
    ∙ part_end d a.ox a.oy a.x0 a.y0 a.s a.cols a.q r.1 a.out.now
