-- A block of L0 is its leaf; any other is decided by its parts. Assumes nothing.
use native.Mathlib.Omega.{arith}
use Rattle.bits.specs.Basics.{Bytes}
use Rattle.tree.specs.Plan.{Planning}
use Rattle.plan.specs.PlannedFormsLaws.{leaf_planned}
use Rattle.plan.specs.PlanNeeds.{planning_in}
use Rattle.plan.specs.PlanNeedsLaws.{leaf_any, plan_ready, parts_light, block_planned}
use Rattle.book.specs.Level.{level_number}
use Rattle.plan.proofs.svq1_enc_tree.inner.plan_block.Goals as goal

pub returns-then-i-gt30 : goal.returns-then-i-gt30
returns-then-i-gt30 c =
    let a = c.args in
    let g : Planning = planning_in a.terms a.book.now a.codebook.now a.lambda (level_number a.level) a.target.now a.predictor.now in
    leaf_planned g a.i _ (omega (arith, c.if-i-gt30.true)) (leaf_any a.terms a.book.now a.codebook.now a.lambda (level_number a.level) a.target.now a.predictor.now a.i _ c.plan_leaf-l.ensures)

pub decide-requires : goal.decide-requires
decide-requires c =
    let a = c.args in
    let g : Planning = planning_in a.terms a.book.now a.codebook.now a.lambda (level_number a.level) a.target.now a.predictor.now in
    let bt : Bytes a.target.now = λ k. omega (arith, c.shared_slice_known-4-1.given k) in
    let bp : Bytes a.predictor.now = λ k. omega (arith, c.shared_slice_known-5-1.given k) in
    let p = plan_ready a.terms a.book.now a.codebook.now a.raised.now (level_number a.level) a.target.now a.predictor.now a.lambda c.requires.plan_ready.0 bt bp in
    parts_light g p a.i c.requires.plan_ready.1 a.a c.requires.done (omega (arith, c.if-i-gt30.false)) _
    (leaf_any a.terms a.book.now a.codebook.now a.lambda (level_number a.level) a.target.now a.predictor.now a.i _ c.plan_leaf-l.ensures)

pub returns : goal.returns
returns c =
    let a = c.args in
    let g : Planning = planning_in a.terms a.book.now a.codebook.now a.lambda (level_number a.level) a.target.now a.predictor.now in
    let bt : Bytes a.target.now = λ k. omega (arith, c.shared_slice_known-4-1.given k) in
    let bp : Bytes a.predictor.now = λ k. omega (arith, c.shared_slice_known-5-1.given k) in
    let p = plan_ready a.terms a.book.now a.codebook.now a.raised.now (level_number a.level) a.target.now a.predictor.now a.lambda c.requires.plan_ready.0 bt bp in
    rw c.decide.ensures
    (block_planned g p a.i c.requires.plan_ready.1 a.a c.requires.done (omega (arith, c.if-i-gt30.false)) _
    (leaf_any a.terms a.book.now a.codebook.now a.lambda (level_number a.level) a.target.now a.predictor.now a.i _ c.plan_leaf-l.ensures))
