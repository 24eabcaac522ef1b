-- The number of the part. Assumes nothing.
use mathlib.Core.Path.{ap, ◌∙◌}
use Rattle.replay.specs.Layout.{number_in}
use Rattle.replay.proofs.inner.file.number_at.Goals as goal

pub returns : goal.returns
returns c = c.number.ensures ∙ ap number_in c.part.ensures
