-- One test after the other. Assumes nothing.
use Rattle.replay.specs.Compare.{slices_differ}
use Rattle.replay.proofs.inner.compare.slices_difference.Goals as goal

pub returns : goal.returns
unfolding slices_differ
returns c = rw (c.judged.ensures, c.judged-x.ensures, c.judged-y.ensures, c.same_part-3.ensures, c.same_part-2.ensures, c.same_part.ensures)
