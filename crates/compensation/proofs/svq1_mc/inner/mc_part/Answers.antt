-- Where both axes lie inside, no read is clamped, and the rows show the same samples as the reads one by one.
use Rattle.std.proofs.Common.{◌≡◌, sym, ◌∙◌, ap₂, arith, w32, ℤ}
use Rattle.std.proofs.lemmas.Int.{to_z-of_z}
use Rattle.canvas.specs.Canvas.{Canvas}
use Rattle.compensation.specs.MovedForms.{moved_part, down}
use Rattle.compensation.specs.MovedFormsLaws.{part_corner}
use Rattle.compensation.specs.InsideLaws.{is_inside, inside_moved}
use Rattle.compensation.proofs.svq1_mc.inner.mc_part.Goals as goal

pub inside-requires-then-inside : goal.inside-requires-then-inside
inside-requires-then-inside c =
    let a = c.args in
    let r = c.requires in
    (omega (arith, part_corner a.s a.cols a.q r.1, r.0, c.lift-uy.ensures.most), r.1.sides.most)

pub returns-then-inside-2 : goal.returns-then-inside-2
returns-then-inside-2 c =
    let a = c.args in
    let r = c.requires in
    let d : Canvas = record { samples = a.reference.now; stride = a.stride; rows = a.rows } in
    let ux = c.lift-ux.result in
    let uy = c.lift-uy.result in
    let px = to_z-of_z w32 a.v.x (record { sfits = omega arith }) in
    let py = to_z-of_z w32 a.v.y (record { sfits = omega arith }) in
    let ex : down ux ≡ a.v.x = c.lift-ux.ensures.same ∙ px in
    let ey : down uy ≡ a.v.y = c.lift-uy.ensures.same ∙ py in
    c.part_inside.ensures
    ∙ inside_moved d a.x a.y ux uy a.s a.cols a.q r.1 a.out.now (is_inside _ _ _ (sym c.inside.ensures ∙ c.if-inside.true)) (is_inside _ _ _ (sym c.inside-then-inside.ensures ∙ c.if-inside-2.true))
    ∙ ap₂ (λ (p q : ℤ). moved_part d a.x a.y (record { x = p; y = q }) a.s a.cols a.q a.out.now) ex ey
