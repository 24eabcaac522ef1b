-- `house_text::put_number` meets its contract: the number, and the line feed behind it. Assumes nothing.
use mathlib.Core.Path.{◌∙◌}
use mir.Syntax.{w64}
use mir.ValLaws.{to_z-of_z}
use Rattle.text.specs.PutLaws.{in_room_lem, put_behind}
use Rattle.house_text.specs.HouseText.{number_line}
use Rattle.house_text.proofs.put_number.Goals as goal

pub returns : goal.returns
unfolding number_line
returns c =
    let z = c.number_of.result in
    let e = to_z-of_z w64 z (record { sfits = c.number_of.type_inv }) in
    put_behind (in_room_lem (rw (e ∙ c.number_of.ensures) at c.put_signed-end.ensures)) (in_room_lem c.put_text.ensures)
