-- All but the cap stays. Assumes nothing.
use Rattle.leaf_search.proofs.svq1_enc_leaf.inner.terms_at.Goals as goal

pub returns : goal.returns
returns c = rw c.cap_at.ensures
