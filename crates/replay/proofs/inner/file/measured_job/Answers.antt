-- The job's parts one behind the other. Assumes nothing.
use native.Mathlib.Omega.{arith}
use Rattle.replay.specs.LayoutLaws.{measured_ends, measured_whole}
use Rattle.replay.proofs.inner.file.measured_job.Goals as goal

pub returns-then-file-at : goal.returns-then-file-at
returns-then-file-at c =
    let a = c.args in
    measured_ends a.file.now a.books a.size a.at a.count _ c.bytes_for-bytes.ensures.0 (omega arith) c.if-file-at.true

pub returns : goal.returns
returns c =
    let a = c.args in
    measured_whole a.file.now a.books a.size a.at a.count _ c.bytes_for-bytes.ensures.0 _ _ _ _ _ c.byte.ensures c.byte-2.ensures c.number_at.ensures c.byte-3.ensures c.byte-4.ensures (omega arith) c.if-file-at.false
