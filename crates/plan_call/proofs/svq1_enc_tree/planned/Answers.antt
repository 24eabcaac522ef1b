-- The copy, the plan by it, and what its tree shows. Assumes nothing.
use native.Mathlib.Omega.{arith}
use Rattle.bits.specs.Basics.{Bytes}
use Rattle.plan_call.specs.PlanCallLaws.{call_ready, call_front, call_shown}
use Rattle.book.specs.Level.{level_number}
use Rattle.plan_call.proofs.svq1_enc_tree.planned.Goals as goal

pub plan-p-requires : goal.plan-p-requires
plan-p-requires c =
    let a = c.args in
    call_ready a.book.now a.codebook.now a.raised.now (level_number a.level) a.terms a.target.now a.predictor.now a.samples.now c.requires _ c.raise_codebook.ensures

pub plan_reconstruction-requires : goal.plan_reconstruction-requires
plan_reconstruction-requires c =
    let a = c.args in
    let bt : Bytes a.target.now = λ k. omega (arith, c.type_inv.target k) in
    let bp : Bytes a.predictor.now = λ k. omega (arith, c.type_inv.predictor k) in
    call_front a.book.now a.codebook.now a.raised.now (level_number a.level) a.terms a.target.now a.predictor.now a.samples.now c.requires _ c.raise_codebook.ensures bt bp a.lambda _ c.plan-p.ensures

pub returns : goal.returns
returns c =
    let a = c.args in
    let bc : Bytes a.codebook.now = λ k. omega (arith, c.type_inv.codebook k) in
    let bt : Bytes a.target.now = λ k. omega (arith, c.type_inv.target k) in
    let bp : Bytes a.predictor.now = λ k. omega (arith, c.type_inv.predictor k) in
    call_shown a.book.now a.codebook.now a.raised.now (level_number a.level) a.terms a.target.now a.predictor.now a.samples.now c.requires _ c.raise_codebook.ensures bt bp a.lambda _ c.plan-p.ensures _ bc c.plan_reconstruction.ensures
