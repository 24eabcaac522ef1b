-- An allowed vector reads inside the canvas, where its rows are those of the definition.
use Rattle.motion.specs.CandidateFormsLaws.{sum_is}
use Rattle.motion.proofs.svq1_enc_inter.inner.vector_sum.Goals as goal

pub returns : goal.returns
returns c =
    let a = c.args in
    let e = c.block_sum.ensures in
    (sum_is a.target.now a.reference.now a.p a.ux a.uy c.requires.1 c.requires.0 a.best _ e, e.small)
