-- A split, or its leaf.
use mathlib.Core.Path.{sym, refl}
use Rattle.plan.proofs.svq1_enc_tree.inner.block_as.Goals as goal

pub returns-then-b : goal.returns-then-b
returns-then-b c = (sym (rw c.if-b.true), refl)

pub returns : goal.returns
returns c = (sym (rw c.if-b.false), c.requires)
