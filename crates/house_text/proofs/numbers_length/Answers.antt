-- `house_text::numbers_length` meets its contract: the bytes of the lines passed, and of one more each turn. Assumes nothing.
use mathlib.Core.Path.{refl, ◌∙◌}
use native.Mathlib.Omega.{arith}
use mir.Syntax.{w64}
use mir.ValLaws.{to_z-of_z}
use Rattle.house_text.specs.HouseText.{number_lines}
use Rattle.house_text.specs.HouseTextLaws.{length_more}
use Rattle.house_text.proofs.numbers_length.Goals as goal

pub loop-b-init : goal.loop-b-init
unfolding number_lines
loop-b-init c = (omega arith, refl)

pub loop-b-preserved : goal.loop-b-preserved
loop-b-preserved c =
    let codebook = c.args.codebook.now in
    let e = to_z-of_z w64 c.number_of.result (record { sfits = c.number_of.type_inv }) ∙ c.number_of.ensures in
    let count = rw e at c.signed_count.ensures.count in
    (omega arith, omega (arith, c.loop-b.invariant.1, length_more codebook c.loop-b.b-index c.signed_count.result (omega arith) count))
