-- The definition's sum, from here on with what is summed, is the one from the start; a row is at most 4,080, so every sum stays below the number that stands for none.
use Rattle.std.proofs.Common.{◌≡◌, ◌∙◌, ◌+◌, ◌<◌, arith}
use Rattle.canvas.specs.Canvas.{Canvas}
use Rattle.compensation.specs.RowForms.{no_best, row_at}
use Rattle.compensation.specs.RowFormsLaws.{RowIn, row_in}
use Rattle.compensation.specs.EarlyLaws.{turn, stop, end}
use Rattle.compensation.proofs.svq1_enc_inter.inner.sum_rows.Goals as goal
use Rattle.compensation.proofs.svq1_enc_inter.inner.sum_rows.Goals.{In-loop-i}

-- row i lies in the block and in the canvas, which are not large
row : (c : In-loop-i)
    → RowIn c.args.t.now (record { samples = c.args.reference.now; stride = c.args.stride; rows = c.args.rows }) c.args.n c.args.ox c.args.oy c.args.x0 c.args.y0 c.loop-i.i
row c =
    let a = c.args in
    row_in a.t.now _ a.n a.ox a.oy a.x0 a.y0 c.loop-i.i c.requires c.loop-i-test.true

pub row_error-row-requires : goal.row_error-row-requires
row_error-row-requires c =
    let f = row (goal.at.row_error-row-requires c).In-loop-i in
    let r = c.requires in
    (r.side.most, r.ox_bit, r.oy_bit, f.target, f.canvas)

pub returns-then-best-sum : goal.returns-then-best-sum
unfolding row_at
returns-then-best-sum c =
    let a = c.args in
    let l = c.loop-i in
    let v : Canvas = record { samples = a.reference.now; stride = a.stride; rows = a.rows } in
    let small : l.sum + c.from-sum.result < no_best = omega (arith, c.requires.side) in
    record {
      answer = stop (row_at a.t.now v a.n a.ox a.oy a.x0 a.y0) a.best a.n l.i l.sum _ l.invariant.0 _ (c.from-sum.ensures ∙ c.row_error-row.ensures.0) c.loop-i-test.true small c.if-best-sum.true;
      small = small;
    }

pub loop-i-preserved : goal.loop-i-preserved
unfolding row_at
loop-i-preserved c =
    let a = c.args in
    let l = c.loop-i in
    let v : Canvas = record { samples = a.reference.now; stride = a.stride; rows = a.rows } in
    let small : l.sum + c.from-sum.result < no_best = omega (arith, c.requires.side) in (
      turn (row_at a.t.now v a.n a.ox a.oy a.x0 a.y0) a.best a.n l.i l.sum _ l.invariant.0 _ (c.from-sum.ensures ∙ c.row_error-row.ensures.0) c.loop-i-test.true small c.if-best-sum.false,
      omega (arith, c.requires.side),
    )

pub returns : goal.returns
returns c =
    let a = c.args in
    let l = c.loop-i in
    let e : l.i ≡ a.n = omega arith in
    record { answer = rw e at (end _ a.best a.n l.i l.sum _ l.invariant.0 c.loop-i-test.false); small = omega (arith, c.requires.side) }
