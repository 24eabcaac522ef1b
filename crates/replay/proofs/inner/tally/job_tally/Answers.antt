-- The modes counted. Assumes nothing.
use Rattle.replay.specs.Tally.{tallied_of}
use Rattle.replay.proofs.inner.tally.job_tally.Goals as goal

pub returns : goal.returns
unfolding tallied_of
returns c = rw (c.count_mode-4.ensures, c.count_mode-3.ensures, c.count_mode-2.ensures, c.count_mode.ensures, c.min-done.ensures)
