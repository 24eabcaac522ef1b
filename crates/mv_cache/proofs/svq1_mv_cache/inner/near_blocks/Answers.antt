-- Each neighbour is the one read at its row and column; no row up or no column back is the row or column itself.
use Rattle.std.proofs.Common.{◌∙◌}
use Rattle.mv_cache.specs.Neighbours.{near_of}
use Rattle.mv_cache.specs.CacheNeedsLaws.{same_row, same_col}
use Rattle.mv_cache.proofs.svq1_mv_cache.inner.near_blocks.Goals as goal

pub returns : goal.returns
unfolding near_of
returns c =
    let a = c.args in
    let row = same_row a.cols a.rows a.vx.now a.vy.now in
    let col = same_col a.cols a.rows a.vx.now a.vy.now in
    let e1 = c.neighbour_at-left.ensures ∙ row _ _ in
    let e2 = c.neighbour_at-low_left.ensures ∙ row _ _ in
    let e3 = c.neighbour_at-above.ensures ∙ col _ _ in
    let e4 = c.neighbour_at-above_right.ensures ∙ col _ _ in
    let e5 = c.neighbour_at-top.ensures ∙ col _ _ in
    let e6 = c.neighbour_at-top_next.ensures ∙ col _ _ in
    let e7 = c.neighbour_at-top_right.ensures ∙ col _ _ in
    λ i. record { left = e1 i; low_left = e2 i; above = e3 i; above_right = e4 i; top = e5 i; top_next = e6 i; top_right = e7 i }
