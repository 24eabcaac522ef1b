-- The fields of either answer. Assumes nothing.
use mir.ValLaws.{to_z-of_z}
use mir.Syntax.{w32}
use Rattle.call_entries.proofs.vector_part.part_of.Goals as goal

pub returns-in-Ok : goal.returns-in-Ok
returns-in-Ok c =
    let v = c.in-Ok.v in
    let x = to_z-of_z w32 v.x (record { sfits = c.struct_told-1.given.0.1 }) in
    let y = to_z-of_z w32 v.y (record { sfits = c.struct_told-1.given.1.0.1 }) in
    rw (x, y, c.in-Ok.is)
