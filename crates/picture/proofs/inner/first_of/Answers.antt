-- The first where there is one, else the second. Assumes nothing.
use Rattle.bits.specs.CallsLaws.{told_or}
use Rattle.picture.proofs.inner.first_of.Goals as goal

pub returns : goal.returns
returns c = rw c.or.ensures (told_or c.args.a c.args.b)
