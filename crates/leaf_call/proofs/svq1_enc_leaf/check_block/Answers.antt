-- The book and the codebook first, then the block. Assumes nothing.
use Rattle.std.proofs.Common.{rules, refl, ◌∙◌, sym, true, false}
use Rattle.leaf.specs.LeafCall.{BlockIn, block_by}
use Rattle.leaf_call.specs.LeafAnswerLaws.{data_first, block_next}
use Rattle.leaf_call.proofs.svq1_enc_leaf.check_block.Goals as goal

pub returns-in_err-check_data : goal.returns-in_err-check_data
returns-in_err-check_data c m =
    let a = c.args in
    let b : BlockIn = block_by a.book.now a.codebook.now a.level a.half a.target.now a.predictor.now a.cap a.skip m in
    search (rules, data_first b, c.in_err-check_data.ensures)

pub returns-then-block_fits : goal.returns-then-block_fits
returns-then-block_fits c m =
    let a = c.args in
    let b : BlockIn = block_by a.book.now a.codebook.now a.level a.half a.target.now a.predictor.now a.cap a.skip m in
    block_next b c.in_ok-check_data.ensures true 0 (sym c.if-block_fits.true ∙ c.block_fits.ensures) refl

pub returns : goal.returns
returns c m =
    let a = c.args in
    let b : BlockIn = block_by a.book.now a.codebook.now a.level a.half a.target.now a.predictor.now a.cap a.skip m in
    block_next b c.in_ok-check_data.ensures false 8 (sym c.if-block_fits.false ∙ c.block_fits.ensures) refl
