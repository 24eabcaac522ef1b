-- The distance of both runs is the sum of the row's squares. Assumes nothing.
use Rattle.std.proofs.Common.{◌∙◌}
use Rattle.visible_error.specs.Visible.{ShownPlane}
use Rattle.visible_error.specs.VisibleNeeds.{shown_by}
use Rattle.visible_error.specs.VisibleLaws.{row_is, row_most}
use Rattle.visible_error.proofs.inner.row_error.Goals as goal

pub returns : goal.returns
returns c =
    let a = c.args in
    let r = c.requires in
    let s : ShownPlane = shown_by a.canvas a.source.now a.recon.now in
    let sum = c.distance_of.ensures ∙ row_is s r.0 a.x a.y a.n r.2 r.3 in
    (sum, rw sum (row_most s r.0 (λ k. (c.shared_slice_known-1.given k).fits) (λ k. (c.shared_slice_known-2-1.given k).fits) a.x a.y a.n))
