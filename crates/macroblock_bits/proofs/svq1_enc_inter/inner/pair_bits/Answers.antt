-- One behind the other. Assumes nothing.
use Rattle.macroblock_bits.specs.CodingNeedsLaws.{counted_both}
use Rattle.macroblock_bits.proofs.svq1_enc_inter.inner.pair_bits.Goals as goal

pub returns : goal.returns
returns c = counted_both _ _ _ _ 64 64 c.vector_bits-x.ensures c.vector_bits-y.ensures
