-- Skip, for the inter half only. Assumes nothing.
use mathlib.Core.Path.{refl}
use native.Mathlib.Omega.{arith}
use Rattle.bits.specs.Bits.{bits_of}
use Rattle.bits.specs.BitsLaws.{length_bits_of}
use Rattle.leaf.specs.LentReadLaws.{skip_read}
use Rattle.leaf.proofs.svq1_plane.inner.read_skip.Goals as goal

pub returns-in-Inter : goal.returns-in-Inter
returns-in-Inter c =
    let n = length_bits_of c.args.s.now in
    rw c.in-Inter.is (skip_read (bits_of c.args.s.now) c.args.at _ (omega (arith, n, c.requires.bits_fit)) refl)
