-- What the search answers, field by field. Assumes nothing.
use mathlib.Core.Path.{◌∙◌, ap}
use mir.ValLaws.{to_z-of_z}
use mir.Syntax.{w32}
use Rattle.call_entries.specs.Vector.{vector_part}
use Rattle.call_entries.proofs.vector_part.parts_search_motion_vector.Goals as goal

pub returns : goal.returns
returns c =
    let s = c in
    let x = to_z-of_z w32 s.args.px s.ranges.px in
    let y = to_z-of_z w32 s.args.py s.ranges.py in
    c.part_of.ensures ∙ ap vector_part (simp (x, y) at c.search_motion_vector.ensures)
