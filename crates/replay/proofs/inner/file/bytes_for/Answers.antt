-- The bytes of whole ones, or one more. Assumes nothing.
use native.Mathlib.Omega.{arith}
use Rattle.replay.specs.LayoutLaws.{bytes_whole, bytes_more}
use Rattle.replay.proofs.inner.file.bytes_for.Goals as goal

pub returns-then-n-eq0 : goal.returns-then-n-eq0
returns-then-n-eq0 c = (bytes_whole _ c.if-n-eq0.true, omega arith)

pub returns : goal.returns
returns c = (bytes_more _ c.if-n-eq0.false, omega arith)
