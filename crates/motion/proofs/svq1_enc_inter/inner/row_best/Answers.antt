-- A row that is not allowed changes nothing. The columns before the span are not codable and change nothing, and neither do those behind
-- it; between them one by one.
use Rattle.std.proofs.Common.{◌≡◌, sym, ◌∙◌, arith}
use Rattle.motion.specs.CandidateForms.{best_so_far}
use Rattle.motion.specs.ScanLaws.{row_more, row_start, row_end, row_none}
use Rattle.motion.proofs.svq1_enc_inter.inner.row_best.Goals as goal

pub returns-then-not-axis_ok : goal.returns-then-not-axis_ok
returns-then-not-axis_ok c =
    let a = c.args in
    let r = c.requires in
    (sym (row_none a.target.now a.reference.now a.p r.0.radius_most r.0.px_low r.0.py_low a.uy (best_so_far a.first) _ (sym c.axis_ok.ensures ∙ c.if-not-axis_ok.true)), r.1)

pub loop-k-init : goal.loop-k-init
loop-k-init c =
    let a = c.args in
    let r = c.requires in
    (row_start a.target.now a.reference.now a.p r.0.radius_most r.0.px_low r.0.py_low a.s r.2 a.uy (best_so_far a.first), r.1)

pub loop-k-preserved : goal.loop-k-preserved
loop-k-preserved c =
    let a = c.args in
    let r = c.requires in
    let l = c.loop-k in
    let t = c.full_tried-best in
    (row_more a.target.now a.reference.now a.p r.0.radius_most r.0.px_low r.0.py_low a.uy (best_so_far a.first) l.k l.best t.result l.invariant.0 t.ensures.0, t.ensures.1)

pub returns : goal.returns
returns c =
    let a = c.args in
    let r = c.requires in
    let l = c.loop-k in
    let e : l.k ≡ a.s.to = omega (arith, r.2) in
    ((rw e at l.invariant.0) ∙ row_end a.target.now a.reference.now a.p r.0.radius_most r.0.px_low r.0.py_low a.s r.2 a.uy (best_so_far a.first), l.invariant.1)
