-- A component in -32..31 raised by 32. Assumes nothing.
use mathlib.Core.Path.{refl}
use native.Mathlib.Omega.{arith}
use lib.IntN.{pos}
use mir.ValLaws.{to_z-of_z}
use mir.Syntax.{w32}
use Rattle.macroblock_bits.specs.CodingNeedsLaws.{placed_at, placed}
use Rattle.macroblock_bits.proofs.svq1_enc_inter.inner.difference_place.Goals as goal

pub overflow_add-result : goal.overflow_add-result
overflow_add-result c =
    let d = c.args.d in
    let s = placed d c.requires in
    simp (to_z-of_z w32 d c.ranges.d, s.sum) (record { sfits = omega arith })

pub overflow_cast-result : goal.overflow_cast-result
overflow_cast-result c =
    let d = c.args.d in
    let s = placed d c.requires in
    simp (to_z-of_z w32 d c.ranges.d, s.sum, to_z-of_z w32 (pos (placed_at d)) (record { sfits = omega arith })) (tt, omega arith)

pub returns : goal.returns
returns c =
    let d = c.args.d in
    let s = placed d c.requires in
    simp (to_z-of_z w32 d c.ranges.d, s.sum, to_z-of_z w32 (pos (placed_at d)) (record { sfits = omega arith })) (refl, s.small)
