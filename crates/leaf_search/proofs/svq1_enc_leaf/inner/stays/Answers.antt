-- Two numbers of 32 bits have a sum that 64 bits hold. Assumes nothing.
use borrow.Author.Rules.{rules}
use Rattle.leaf.specs.Leaf.{stays}
use Rattle.leaf_search.proofs.svq1_enc_leaf.inner.stays.Goals as goal

pub returns : goal.returns
unfolding stays
returns c = search rules
