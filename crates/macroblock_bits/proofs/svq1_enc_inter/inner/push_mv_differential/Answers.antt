-- The codes of both components, one behind the other. Assumes nothing.
use native.Mathlib.Omega.{arith}
use Rattle.std.proofs.Common.{to_z-of_z, SFits, w32}
use Rattle.bits.specs.BitNeeds.{Wrote}
use Rattle.bits.specs.BitNeedsLaws.{wrote_more}
use Rattle.macroblock.specs.MacroblockNeeds.{by_book}
use Rattle.macroblock.specs.Macroblock.{component_bits}
use Rattle.macroblock_bits.specs.CodingNeedsLaws.{first_fits, second_fits}
use Rattle.macroblock_bits.proofs.svq1_enc_inter.inner.push_mv_differential.Goals as goal

pub put_component-q-requires : goal.put_component-q-requires
put_component-q-requires c =
    let s = c in
    let a = s.args in
    let g = by_book a.book.now in
    let fx : SFits w32 a.diff.x = record { sfits = omega arith } in
    let fy : SFits w32 a.diff.y = record { sfits = omega arith } in
    simp to_z-of_z
    (s.requires.0, s.requires.1.x_in, first_fits (component_bits g a.diff.x) (component_bits g a.diff.y) s.requires.2)

pub put_component-requires : goal.put_component-requires
put_component-requires c =
    let s = c in
    let a = s.args in
    let g = by_book a.book.now in
    let fx : SFits w32 a.diff.x = record { sfits = omega arith } in
    let fy : SFits w32 a.diff.y = record { sfits = omega arith } in
    let p = c.put_component-q in
    let w : Wrote a.out.now a.at (component_bits g a.diff.x) _ _ = simp to_z-of_z at p.ensures in
    simp to_z-of_z
    (s.requires.0, s.requires.1.y_in, second_fits (component_bits g a.diff.x) (component_bits g a.diff.y) s.requires.2 w p.auto.out)

pub returns : goal.returns
returns c =
    let s = c in
    let a = s.args in
    let g = by_book a.book.now in
    let fx : SFits w32 a.diff.x = record { sfits = omega arith } in
    let fy : SFits w32 a.diff.y = record { sfits = omega arith } in
    let w : Wrote a.out.now a.at (component_bits g a.diff.x) _ _ = simp to_z-of_z at c.put_component-q.ensures in
    let v : Wrote _ _ (component_bits g a.diff.y) _ _ = simp to_z-of_z at c.put_component.ensures in
    let room = s.requires.2.bits_fit in
    wrote_more (omega arith) w v
