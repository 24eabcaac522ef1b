-- One test after the other. Assumes nothing.
use Rattle.replay.specs.Compare.{read_differ}
use Rattle.replay.specs.CompareLaws.{none_told}
use Rattle.replay.proofs.inner.compare.read_difference.Goals as goal

pub returns : goal.returns
unfolding read_differ
returns c = rw (c.judged.ensures, none_told c.args.r.refused c.is_none.result c.is_none.ensures, c.judged-done.ensures, c.judged-next.ensures)
