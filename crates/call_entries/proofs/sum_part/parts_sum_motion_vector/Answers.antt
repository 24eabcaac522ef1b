-- What the sum answers, field by field. Assumes nothing.
use mathlib.Core.Path.{◌∙◌, ap}
use mir.ValLaws.{to_z-of_z}
use mir.Syntax.{w32}
use Rattle.call_entries.specs.Sum.{sum_part}
use Rattle.call_entries.proofs.sum_part.parts_sum_motion_vector.Goals as goal

pub returns : goal.returns
returns c =
    let s = c in
    let px = to_z-of_z w32 s.args.px s.ranges.px in
    let py = to_z-of_z w32 s.args.py s.ranges.py in
    let vx = to_z-of_z w32 s.args.vx s.ranges.vx in
    let vy = to_z-of_z w32 s.args.vy s.ranges.vy in
    c.part_of_sum.ensures ∙ ap sum_part (simp (px, py, vx, vy) at c.sum_motion_vector.ensures)
