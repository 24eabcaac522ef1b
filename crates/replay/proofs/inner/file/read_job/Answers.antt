-- Too short, or by its bit count. Assumes nothing.
use native.Mathlib.Omega.{arith}
use Rattle.replay.specs.LayoutLaws.{job_short, job_measured}
use Rattle.replay.proofs.inner.file.read_job.Goals as goal

pub returns-then-file-at : goal.returns-then-file-at
returns-then-file-at c = job_short _ _ _ _ (omega arith)

pub returns-then-file-at-lt16 : goal.returns-then-file-at-lt16
returns-then-file-at-lt16 c = job_short _ _ _ _ (omega arith)

pub returns : goal.returns
returns c =
    let a = c.args in
    job_measured a.file.now a.books a.size a.at _ _ (omega arith) c.number_at-count.ensures c.measured_job.ensures
