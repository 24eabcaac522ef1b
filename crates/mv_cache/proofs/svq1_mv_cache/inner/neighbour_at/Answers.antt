-- Inside the plane the vector is the one stored there.
use Rattle.std.proofs.Common.{rules, ◌∙◌, ap₂, w32, ℤ}
use Rattle.std.proofs.lemmas.Int.{to_z-of_z}
use Rattle.std.specs.Prelude.{Some}
use Rattle.mv_cache.specs.CacheNeedsLaws.{absent_above, absent_below, absent_left, absent_right, present}
use Rattle.mv_cache.proofs.svq1_mv_cache.inner.neighbour_at.Goals as goal

pub returns-then-row-up : goal.returns-then-row-up
returns-then-row-up c = search (rules, absent_above, absent_below, absent_left, absent_right)

pub returns : goal.returns
returns c =
    let a = c.args in
    let x = to_z-of_z w32 c.signed-x.result (record { sfits = c.signed-x.type_inv }) in
    let y = to_z-of_z w32 c.signed-y.result (record { sfits = c.signed-y.type_inv }) in
    ap₂ (λ (p q : ℤ). Some (record { x = p; y = q })) (x ∙ c.signed-x.ensures) (y ∙ c.signed-y.ensures)
    ∙ present a.cols a.rows a.vx.now a.vy.now a.row a.up a.col a.back (search rules) (search rules) (search rules) (search rules)
