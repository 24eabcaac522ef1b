-- The target is the source's macroblock. Assumes nothing.
use Rattle.mv_cache.specs.CacheNeeds.{near_from}
use Rattle.macroblock.specs.MacroblockNeeds.{given_by}
use Rattle.macroblock_choice.specs.ChosenNeedsLaws.{sources, block_placed, chosen_by}
use Rattle.macroblock_choice.proofs.svq1_enc_inter.inner.choice.choose_over.Goals as goal

pub block-requires : goal.block-requires
block-requires c =
    let s = c in
    let a = s.args in
    (sources (given_by a.canvas a.reference.now a.book.now a.codebook.now) a.raised.now a.source.now a.k s.requires.0, s.requires.2)

pub choose_for-requires : goal.choose_for-requires
choose_for-requires c =
    let s = c in
    let a = s.args in
    (block_placed (given_by a.canvas a.reference.now a.book.now a.codebook.now) a.raised.now a.source.now a.k s.requires.0 _ c.block.ensures, s.requires.1)

pub returns : goal.returns
returns c =
    let s = c in
    let a = s.args in
    chosen_by (given_by a.canvas a.reference.now a.book.now a.codebook.now) a.raised.now a.source.now a.k s.requires.0 a.settings a.room _ (near_from a.near) _ c.block.ensures c.choose_for.ensures
