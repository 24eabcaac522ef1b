-- The codes of both components. Assumes nothing.
use native.Mathlib.Omega.{arith}
use mir.ValLaws.{to_z-of_z}
use mir.Syntax.{w32}
use Rattle.macroblock.specs.MacroblockNeeds.{by_book}
use Rattle.macroblock.specs.Macroblock.{component_bits}
use Rattle.macroblock_bits.specs.CodingNeeds.{Counted}
use Rattle.macroblock_bits.specs.CodingNeedsLaws.{counted_both}
use Rattle.macroblock_bits.proofs.svq1_enc_inter.inner.vector_bits.Goals as goal

pub returns : goal.returns
returns c =
    let a = c.args in
    let g = by_book a.book.now in
    let x : Counted (component_bits g a.diff.x) 32 _ = simp (to_z-of_z w32 a.diff.x (record { sfits = omega arith })) at c.mv_component_bits-x.ensures in
    let y : Counted (component_bits g a.diff.y) 32 _ = simp (to_z-of_z w32 a.diff.y (record { sfits = omega arith })) at c.mv_component_bits-y.ensures in
    counted_both _ _ _ _ 32 32 x y
