-- The stages' indices, four bits each. Assumes nothing.
use Rattle.bits.specs.Bits.{bits_of}
use Rattle.leaf.specs.LentReadLaws.{nibbles_start, nibble_put}
use borrow.Author.Rules.{rules}
use Rattle.leaf.proofs.svq1_plane.inner.get_stages.Goals as goal

pub loop-i-init : goal.loop-i-init
loop-i-init c = nibbles_start (bits_of c.args.s.now) c.args.at

pub loop-i-preserved : goal.loop-i-preserved
loop-i-preserved c =
    nibble_put (bits_of c.args.s.now) c.loop-i.stages c.args.at c.loop-i.i c.get_nibble.result (search rules) c.loop-i.invariant c.get_nibble.ensures
