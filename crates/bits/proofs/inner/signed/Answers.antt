-- The test at 128 is that of two's complement.
use mathlib.Core.Path.{◌∙◌}
use native.Mathlib.Omega.{arith}
use borrow.Author.Rules.{rules}
use lib.IntN.{pos, ◌-ℤ◌}
use mir.ValLaws.{to_z-of_z}
use mir.Syntax.{w32}
use mir.Val.{SFits}
use Rattle.bits.specs.SignedLaws.{low_signed, high_signed, high_mag}
use Rattle.bits.proofs.inner.signed.Goals as goal

pub returns-then-b-lt128 : goal.returns-then-b-lt128
returns-then-b-lt128 c =
    let b = c.args.b in
    let f : SFits w32 (pos b) = record { sfits = omega arith } in
    to_z-of_z w32 (pos b) f ∙ low_signed b c.if-b-lt128.true

pub overflow_sub-result : goal.overflow_sub-result
overflow_sub-result c =
    let b = c.args.b in
    let f : SFits w32 (pos b) = record { sfits = omega arith } in
    rw (to_z-of_z w32 (pos b) f) (record { sfits = omega (arith, high_mag b (search rules)) })

pub returns : goal.returns
returns c =
    let b = c.args.b in
    let f : SFits w32 (pos b) = record { sfits = omega arith } in
    let g : SFits w32 (pos b -ℤ pos 256) = record { sfits = omega (arith, high_mag b (search rules)) } in
    rw (to_z-of_z w32 (pos b) f, to_z-of_z w32 (pos b -ℤ pos 256) g) (high_signed b c.if-b-lt128.false (search rules))
