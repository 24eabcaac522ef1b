-- The block's samples gathered, and its corner in the macroblock's. Assumes nothing.
use Rattle.std.proofs.Common.{◌∙◌}
use Rattle.macroblock_search.specs.SearchNeedsLaws.{quarter_passes}
use Rattle.macroblock_search.proofs.svq1_enc_inter.inner.searches.find_quarter.Goals as goal

pub find_vector-requires : goal.find_vector-requires
find_vector-requires c =
    let a = c.args in
    let z = c.corner_of-corner.ensures in
    quarter_passes a.canvas a.reference.now a.target.now a.k c.requires.0 a.j _ _ _ a.predictor _ z.0 z.1 c.requires.1 c.gather_block.auto.out c.requires.2

pub returns : goal.returns
returns c =
    let z = c.corner_of-corner.ensures in
    c.find_vector.ensures ∙ rw (c.gather_block.ensures, z.0, z.1)
