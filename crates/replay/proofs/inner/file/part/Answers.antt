-- The part, or none. Assumes nothing.
use native.Mathlib.Omega.{arith}
use Rattle.replay.specs.LayoutLaws.{part_off, part_on}
use Rattle.replay.proofs.inner.file.part.Goals as goal

pub returns-then-t-at : goal.returns-then-t-at
returns-then-t-at c = part_off _ _ _ (omega arith)

pub returns-then-t-at-2 : goal.returns-then-t-at-2
returns-then-t-at-2 c = part_off _ _ _ (omega arith)

pub returns : goal.returns
returns c = part_on _ _ _ (omega arith)
