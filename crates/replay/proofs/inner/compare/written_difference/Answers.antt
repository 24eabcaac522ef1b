-- One test after the other. Assumes nothing.
use Rattle.replay.specs.Compare.{written_differ}
use Rattle.replay.specs.CompareLaws.{none_told}
use Rattle.replay.proofs.inner.compare.written_difference.Goals as goal

pub returns : goal.returns
unfolding written_differ
returns c = rw (c.judged.ensures, none_told c.args.w.refused c.is_none.result c.is_none.ensures, c.judged-done.ensures, c.judged-next.ensures, c.judged-bits.ensures)
