-- 0 is the intra half. Assumes nothing.
use Rattle.leaf_call.specs.LeafAnswerLaws.{half_inter}
use borrow.Author.Rules.{rules}
use Rattle.leaf_call.proofs.svq1_enc_leaf.inner.half_of.Goals as goal

pub returns-in_default : goal.returns-in_default
returns-in_default c =
    half_inter c.args.half (search rules)
