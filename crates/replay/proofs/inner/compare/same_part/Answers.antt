-- Two parts compared. Assumes nothing.
use mathlib.Core.Path.{◌∙◌}
use Rattle.replay.proofs.inner.compare.same_part.Goals as goal

pub returns : goal.returns
returns c = c.same.ensures ∙ rw (c.part.ensures, c.part-2.ensures)
