-- Means of two where it lies between columns or between rows, of four where it lies between both: a law for each.
use Rattle.std.proofs.Common.{◌∙◌, arith}
use Rattle.canvas.specs.Canvas.{Canvas}
use Rattle.compensation.specs.RowFormsLaws.{row_two, row_four}
use Rattle.compensation.proofs.svq1_enc_inter.inner.row_between.Goals as goal

pub returns-then-ox-oy-lt2 : goal.returns-then-ox-oy-lt2
returns-then-ox-oy-lt2 c =
    let a = c.args in
    let v : Canvas = record { samples = a.reference.now; stride = a.stride; rows = a.rows } in
    (c.sum_two.ensures.0 ∙ row_two a.t.now v a.n a.ox a.oy a.ti a.p c.requires.1 c.requires.2 (omega (arith, c.requires.3)), c.sum_two.ensures.1)

pub returns : goal.returns
returns c =
    let a = c.args in
    let v : Canvas = record { samples = a.reference.now; stride = a.stride; rows = a.rows } in
    (c.sum_four.ensures.0 ∙ row_four a.t.now v a.n a.ox a.oy a.ti a.p (omega (arith, c.requires)) (omega (arith, c.requires)), c.sum_four.ensures.1)
