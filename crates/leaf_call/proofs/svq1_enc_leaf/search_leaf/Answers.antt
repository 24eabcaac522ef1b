-- Refused, or searched. Assumes nothing.
use mathlib.Core.Path.{◌≡◌, refl, ◌∙◌, sym, ap}
use Rattle.std.proofs.Common.{rules}
use native.Mathlib.Omega.{arith}
use Rattle.book.specs.Level.{area}
use Rattle.leaf.specs.LeafCall.{BlockIn, block_by, block_refusal}
use Rattle.leaf_call.specs.LeafAnswerLaws.{block_passes, answer_refused, answer_found}
use Rattle.leaf_call.proofs.svq1_enc_leaf.search_leaf.Goals as goal

pub returns-in_err-check_block : goal.returns-in_err-check_block
returns-in_err-check_block c =
    let a = c.args in
    let b : BlockIn = block_by a.book.now a.codebook.now a.level a.half a.target.now a.predictor.now a.cap a.skip a.margin in
    search (rules, answer_refused b, c.in_err-check_block.ensures a.margin)

pub level_at-requires : goal.level_at-requires
level_at-requires c =
    let s = c in
    let a = s.args in
    let b : BlockIn = block_by a.book.now a.codebook.now a.level a.half a.target.now a.predictor.now a.cap a.skip a.margin in
    let none : block_refusal b ≡ 0 = sym (c.in_ok-check_block.ensures a.margin) in
    let p = block_passes b none in
    omega (arith, p.level)

pub terms_of-requires : goal.terms_of-requires
terms_of-requires c =
    let a = c.args in
    let b : BlockIn = block_by a.book.now a.codebook.now a.level a.half a.target.now a.predictor.now a.cap a.skip a.margin in
    let none : block_refusal b ≡ 0 = sym (c.in_ok-check_block.ensures a.margin) in
    let p = block_passes b none in
    omega (arith, p.half)

pub searched-requires : goal.searched-requires
searched-requires c =
    let s = c in
    let a = s.args in
    let b : BlockIn = block_by a.book.now a.codebook.now a.level a.half a.target.now a.predictor.now a.cap a.skip a.margin in
    let none : block_refusal b ≡ 0 = sym (c.in_ok-check_block.ensures a.margin) in
    let p = block_passes b none in
    let l = c.level_at.ensures in
    record {
      known = p.book;
      codebook_size = p.codebook;
      room = refl;
      target = p.target ∙ ap area (sym l);
      predictor = p.predictor ∙ ap area (sym l);
      stages = rw c.terms_of.ensures p.cap;
      skips = rw c.terms_of.ensures p.skip;
    }

pub returns : goal.returns
returns c =
    let s = c in
    let a = s.args in
    let b : BlockIn = block_by a.book.now a.codebook.now a.level a.half a.target.now a.predictor.now a.cap a.skip a.margin in
    let none : block_refusal b ≡ 0 = sym (c.in_ok-check_block.ensures a.margin) in
    let p = block_passes b none in
    let f = rw (c.level_at.ensures, c.terms_of.ensures) at c.searched.ensures in
    answer_found b c.searched.result none f.leaf f.counted f.behind
