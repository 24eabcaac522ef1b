-- Refused, or planned. Assumes nothing.
use Rattle.std.proofs.Common.{rules}
use mathlib.Core.Path.{◌≡◌, ◌∙◌, ap, refl, sym}
use Rattle.book.specs.Level.{area}
use native.Mathlib.Omega.{arith}
use Rattle.bits.specs.Basics.{Bytes}
use Rattle.leaf.specs.LeafCall.{BlockIn, block_by, block_refusal}
use Rattle.leaf_call.specs.LeafAnswerLaws.{block_passes}
use Rattle.plan_call.specs.PlanCallLaws.{plan_refused, plan_answered}
use Rattle.plan_call.proofs.svq1_enc_tree.plan_macroblock.Goals as goal

pub returns-in_err-check_block : goal.returns-in_err-check_block
returns-in_err-check_block c =
    let a = c.args in
    let b : BlockIn = block_by a.book.now a.codebook.now a.level a.half a.target.now a.predictor.now a.cap a.skip a.margin in
    search (rules, plan_refused b a.lambda, c.in_err-check_block.ensures a.margin)

pub level_at-requires : goal.level_at-requires
level_at-requires c =
    let a = c.args in
    let b : BlockIn = block_by a.book.now a.codebook.now a.level a.half a.target.now a.predictor.now a.cap a.skip a.margin in
    let none : block_refusal b ≡ 0 = sym (c.in_ok-check_block.ensures a.margin) in
    (block_passes b none).level

pub terms_of-requires : goal.terms_of-requires
terms_of-requires c =
    let a = c.args in
    let b : BlockIn = block_by a.book.now a.codebook.now a.level a.half a.target.now a.predictor.now a.cap a.skip a.margin in
    let none : block_refusal b ≡ 0 = sym (c.in_ok-check_block.ensures a.margin) in
    let p = block_passes b none in
    omega (arith, p.half)

pub planned-p-requires : goal.planned-p-requires
planned-p-requires c =
    let a = c.args in
    let b : BlockIn = block_by a.book.now a.codebook.now a.level a.half a.target.now a.predictor.now a.cap a.skip a.margin in
    let none : block_refusal b ≡ 0 = sym (c.in_ok-check_block.ensures a.margin) in
    let p = block_passes b none in
    let l = c.level_at.ensures in
    record {
      ready = record {
        known = p.book;
        codebook_size = p.codebook;
        room = refl;
        target = p.target ∙ ap area (sym l);
        predictor = p.predictor ∙ ap area (sym l);
        stages = rw c.terms_of.ensures p.cap;
        skips = rw c.terms_of.ensures p.skip;
      };
      five = rw l p.level;
      zeros = refl;
    }

pub returns : goal.returns
returns c =
    let a = c.args in
    let b : BlockIn = block_by a.book.now a.codebook.now a.level a.half a.target.now a.predictor.now a.cap a.skip a.margin in
    let none : block_refusal b ≡ 0 = sym (c.in_ok-check_block.ensures a.margin) in
    let bt : Bytes a.target.now = λ k. omega (arith, c.type_inv.target k) in
    let bp : Bytes a.predictor.now = λ k. omega (arith, c.type_inv.predictor k) in
    plan_answered b a.lambda bt bp none _ c.terms_of.ensures c.planned-p.result _ (rw c.level_at.ensures at c.planned-p.ensures)
