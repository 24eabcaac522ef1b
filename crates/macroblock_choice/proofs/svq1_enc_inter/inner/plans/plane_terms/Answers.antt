-- Skip by the half. Assumes nothing.
use Rattle.macroblock_choice.proofs.svq1_enc_inter.inner.plans.plane_terms.Goals as goal

pub returns-in-Intra : goal.returns-in-Intra
returns-in-Intra c = rw (c.open_terms.ensures, c.in-Intra.is)

pub returns-in-Inter : goal.returns-in-Inter
returns-in-Inter c = rw (c.open_terms-in-Inter.ensures, c.in-Inter.is)
