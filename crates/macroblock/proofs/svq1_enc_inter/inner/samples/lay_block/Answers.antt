-- The samples, and then the vectors. Assumes nothing.
use Rattle.macroblock.specs.SampleNeedsLaws.{inside_at, laid_four}
use borrow.Author.Rules.{rules}
use Rattle.macroblock.proofs.svq1_enc_inter.inner.samples.lay_block.Goals as goal

pub store_vectors-requires : goal.store_vectors-requires
store_vectors-requires c =
    let s = c in
    let vs = s.args.vectors in
    let p = s.requires in
    let i = inside_at vs p.3 in
    (p.1, p.2, i 0, i 1, i 2, i 3)

pub returns : goal.returns
returns c =
    let s = c in
    let a = s.args in
    laid_four a.cols a.k a.samples.now a.vectors _ _ (search rules) c.put_part.ensures c.store_vectors.ensures
