-- The predictor and the two differences. Assumes nothing.
use mathlib.Core.Path.{ap₂, ◌∙◌}
use lib.IntN.{ℤ}
use mir.ValLaws.{to_z-of_z}
use mir.Syntax.{w32}
use borrow.Author.Rules.{rules}
use Rattle.vectors.specs.declared.svq1_motion_predictor.Svq1Mv.{Svq1Mv}
use Rattle.macroblock_dec.specs.FindingNeedsLaws.{vector_found_lem, vector_refused}
use Rattle.macroblock_dec.proofs.svq1_plane.inner.codes.read_vector.Goals as goal

pub returns-in_err-pair : goal.returns-in_err-pair
returns-in_err-pair c =
    let a = c.args in
    let d = c.in_err-pair.ensures.0 in
    let e = vector_refused a.s.now a.book.now a.at a.predictor _ d in
    search (rules, e, d)

pub returns : goal.returns
returns c =
    let a = c.args in
    let dx = c.difference_at-x in
    let dy = c.difference_at-y in
    let x = to_z-of_z w32 dx.result (record { sfits = dx.type_inv }) ∙ dx.ensures in
    let y = to_z-of_z w32 dy.result (record { sfits = dy.type_inv }) ∙ dy.ensures in
    let e = ap₂ {C = Svq1Mv} (λ (m n : ℤ). record { x = m; y = n }) (c.new.ensures.0 ∙ x) (c.new.ensures.1 ∙ y) in
    let f = c.in_ok-pair.ensures.0 in
    let v = vector_found_lem a.s.now a.book.now a.at a.predictor _ _ _ (simp (x, y) at c.final_motion_vector.ensures) f in
    rw e (v, f)
