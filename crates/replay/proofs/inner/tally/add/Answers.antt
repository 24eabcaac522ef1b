-- Field by field. Assumes nothing.
use Rattle.replay.specs.Tally.{added}
use Rattle.replay.proofs.inner.tally.add.Goals as goal

pub returns : goal.returns
unfolding added
returns c = rw (c.saturating_add.ensures, c.saturating_add-2.ensures, c.saturating_add-3.ensures, c.saturating_add-4.ensures, c.saturating_add-5.ensures, c.saturating_add-6.ensures, c.saturating_add-7.ensures, c.saturating_add-8.ensures, c.or.ensures, c.or-2.ensures)
