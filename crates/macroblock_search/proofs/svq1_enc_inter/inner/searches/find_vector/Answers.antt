-- The call refuses nothing, so a refusal is that nothing was found. Assumes nothing.
use Rattle.std.proofs.Common.{◌∙◌}
use Rattle.macroblock_search.specs.SearchNeedsLaws.{found_ok}
use Rattle.macroblock_search.proofs.svq1_enc_inter.inner.searches.find_vector.Goals as goal

pub returns : goal.returns
returns c = c.ok.ensures.value ∙ found_ok _ _ c.requires c.search_motion_vector-answer.ensures
