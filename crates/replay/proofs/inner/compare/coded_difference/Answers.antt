-- One test after the other. Assumes nothing.
use Rattle.replay.specs.Compare.{coded_differ}
use Rattle.replay.proofs.inner.compare.coded_difference.Goals as goal

pub returns : goal.returns
unfolding coded_differ
returns c = rw (c.judged.ensures, c.same_part.ensures, c.bytes_for-bytes.ensures.0, c.judged-told.ensures, c.same_steps.ensures, c.part-steps.ensures)
