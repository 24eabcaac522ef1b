-- The stages, or 24 where the bits end before them. Assumes nothing.
use mathlib.Core.Path.{refl}
use native.Mathlib.Omega.{arith}
use mir.ValLaws.{to_z-of_z}
use mir.Syntax.{w16}
use Rattle.bits.specs.Bits.{bits_of}
use Rattle.bits.specs.BitsLaws.{length_bits_of}
use Rattle.leaf.specs.LentReadLaws.{stages_short, refused_read, coded_read}
use borrow.Author.Rules.{rules}
use Rattle.leaf.proofs.svq1_plane.inner.read_stages.Goals as goal

pub returns-then-s-at : goal.returns-then-s-at
returns-then-s-at c =
    let b = bits_of c.args.s.now in
    let n = length_bits_of c.args.s.now in
    rw (stages_short b c.args.at c.args.count (omega (arith, n)) (omega (arith, n))) (refused_read _ b _ refl)

pub returns : goal.returns
returns c =
    let b = bits_of c.args.s.now in
    let n = length_bits_of c.args.s.now in
    rw (to_z-of_z w16 c.args.mean c.ranges.mean, c.get_stages.ensures)
    (coded_read b c.args.at c.args.count c.args.mean _ (search rules) (omega (arith, n)) refl)
