-- The rows before the span are not codable and change nothing, and neither do those behind it; between them row by row.
use Rattle.std.proofs.Common.{◌≡◌, ◌∙◌, arith}
use Rattle.motion.specs.CandidateForms.{best_so_far}
use Rattle.motion.specs.ScanLaws.{rows_more, rows_start, rows_end}
use Rattle.motion.proofs.svq1_enc_inter.inner.full_best.Goals as goal

pub loop-k-init : goal.loop-k-init
loop-k-init c =
    let a = c.args in
    let r = c.requires in
    (rows_start a.target.now a.reference.now a.p r.0.radius_most r.0.px_low r.0.py_low c.span_of-sy.result c.span_of-sy.ensures (best_so_far a.first), r.1)

pub loop-k-preserved : goal.loop-k-preserved
loop-k-preserved c =
    let a = c.args in
    let r = c.requires in
    let l = c.loop-k in
    let t = c.row_best-best in
    (rows_more a.target.now a.reference.now a.p r.0.radius_most r.0.px_low r.0.py_low (best_so_far a.first) l.k l.best t.result l.invariant.0 t.ensures.0, t.ensures.1)

pub returns : goal.returns
returns c =
    let a = c.args in
    let r = c.requires in
    let q = c.span_of-sy.ensures in
    let l = c.loop-k in
    let e : l.k ≡ c.span_of-sy.result.to = omega (arith, q) in
    ((rw e at l.invariant.0) ∙ rows_end a.target.now a.reference.now a.p r.0.radius_most r.0.px_low r.0.py_low c.span_of-sy.result q (best_so_far a.first), l.invariant.1)
