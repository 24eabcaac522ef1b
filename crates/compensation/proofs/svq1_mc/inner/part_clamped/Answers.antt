-- The first j samples of the part are put where its order puts them; each is the definition's at its place.
use Rattle.std.proofs.Common.{◌≡◌, ◌∙◌, ap, ℕ, ◌*◌, arith}
use Rattle.canvas.specs.Canvas.{Canvas}
use Rattle.mv_cache.specs.Grid.{entry_of}
use Rattle.mv_cache.specs.PutLaws.{put_to, put_none, put_more, Steps}
use Rattle.compensation.specs.MovedForms.{down_mv}
use Rattle.compensation.specs.MovedFormsLaws.{moved_is, part_steps, part_values, part_value, part_done}
use Rattle.compensation.proofs.svq1_mc.inner.part_clamped.Goals as goal
use Rattle.compensation.proofs.svq1_mc.inner.part_clamped.Goals.{In-loop-j}

-- a turn's sample: its place in the part
known : (c : In-loop-j) → Steps c.args.s c.args.cols c.args.q c.loop-j.j 256
known c =
    let a = c.args in
    part_steps a.s a.cols a.q c.requires.1 c.loop-j.j c.loop-j-test.true

pub loop-j-init : goal.loop-j-init
loop-j-init c = put_none _ _ _ _ _

pub overflow_add-i-in-loop-j-2 : goal.overflow_add-i-in-loop-j-2
overflow_add-i-in-loop-j-2 c = omega (arith, known c)

pub overflow_add-y : goal.overflow_add-y
overflow_add-y c = omega (arith, known c, c.requires.0)

pub overflow_mul-y : goal.overflow_mul-y
overflow_mul-y c = omega (arith, known c, c.requires.0)

pub overflow_add-y-in-loop-j : goal.overflow_add-y-in-loop-j
overflow_add-y-in-loop-j c = omega (arith, known c, c.requires)

pub sample_halfpel-requires : goal.sample_halfpel-requires
sample_halfpel-requires c =
    let k = known (goal.at.sample_halfpel-requires c).In-loop-j in
    let r = c.requires in
    (omega (arith, r), omega (arith, r), r.0.canvas_len, omega (arith, k, r), omega (arith, k, r))

pub bounds-out-i : goal.bounds-out-i
bounds-out-i c = (known (goal.at.bounds-out-i c).In-loop-j).all

pub loop-j-preserved : goal.loop-j-preserved
loop-j-preserved c =
    let a = c.args in
    let l = c.loop-j in
    let v : Canvas = record { samples = a.reference.now; stride = a.stride; rows = a.rows } in
    put_more a.s a.cols a.q _ l.j _ _ _ l.invariant
    (c.sample_halfpel.ensures ∙ moved_is v a.x a.y a.ux a.uy (entry_of a.s a.cols a.q l.j) ∙ part_value v a.x a.y (down_mv a.ux a.uy) a.s a.cols a.q l.j c.loop-j-test.true)

pub returns : goal.returns
returns c =
    let a = c.args in
    let l = c.loop-j in
    let v : Canvas = record { samples = a.reference.now; stride = a.stride; rows = a.rows } in
    let e : l.j ≡ a.s * a.s = omega arith in
    l.invariant
    ∙ ap (λ (m : ℕ). put_to a.s a.cols a.q (part_values v a.x a.y (down_mv a.ux a.uy) a.s a.cols a.q) m a.out.now) e
    ∙ part_done v a.x a.y (down_mv a.ux a.uy) a.s a.cols a.q a.out.now c.requires.1
