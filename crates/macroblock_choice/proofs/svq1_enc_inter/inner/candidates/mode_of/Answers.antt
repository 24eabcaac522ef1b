-- One case for each motion. Assumes nothing.
use Rattle.macroblock_choice.proofs.svq1_enc_inter.inner.candidates.mode_of.Goals as goal

pub returns-in-None : goal.returns-in-None
returns-in-None c = λ vs. rw c.in-None.is

pub returns-in-One : goal.returns-in-One
returns-in-One c = λ vs. rw c.in-One.is

pub returns-in-Four : goal.returns-in-Four
returns-in-Four c = λ vs. rw c.in-Four.is
