-- What is read can be shown. Assumes nothing.
use Rattle.macroblock_dec.specs.FindingNeedsLaws.{tree_found}
use Rattle.macroblock_dec.proofs.svq1_plane.inner.reading.decode_mb_block_tree.Goals as goal

pub returns : goal.returns
returns c =
    let s = c in
    let a = s.args in
    tree_found a.book.now s.requires.passes a.half a.s.now a.at _ c.read.ensures
