-- The writer keeps the length of what it tells in. Assumes nothing.
use native.Mathlib.Omega.{arith}
use Rattle.replay.proofs.inner.run.replay_lent.Goals as goal

pub job_tally-requires : goal.job_tally-requires
job_tally-requires c = omega (arith, c.replay_writer-w.auto.stated, c.requires.0, c.requires.1)
