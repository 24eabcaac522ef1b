-- The half by its number. Assumes nothing.
use Rattle.leaf_call.proofs.svq1_enc_leaf.inner.terms_of.Goals as goal

pub returns : goal.returns
returns c = rw c.half_of.ensures
