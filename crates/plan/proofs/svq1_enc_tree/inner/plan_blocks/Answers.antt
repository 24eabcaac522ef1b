-- A block is planned when those behind it are. Assumes nothing.
use mathlib.Core.Path.{◌∙◌, sym, refl}
use native.Mathlib.Omega.{arith}
use Rattle.plan.specs.PlanNeeds.{planning_in}
use Rattle.plan.specs.PlanNeedsLaws.{fill_begins, fill_passed, fill_taken, fill_behind, fill_ends}
use Rattle.book.specs.Level.{level_number}
use Rattle.plan.proofs.svq1_enc_tree.inner.plan_blocks.Goals as goal

pub loop-i-init : goal.loop-i-init
loop-i-init c = fill_begins _ _ refl

pub plan_block-b-requires : goal.plan_block-b-requires
plan_block-b-requires c = record {
  plan_ready = (c.requires, record { block = omega (arith, c.loop-i.invariant.upto); under = sym c.in_tree.ensures ∙ c.if-in_tree.true });
  done = fill_behind _ _ _ _ c.loop-i.invariant (omega arith);
}

pub loop-i-preserved-then-in_tree : goal.loop-i-preserved-then-in_tree
loop-i-preserved-then-in_tree c =
    let a = c.args in
    let l = c.loop-i in
    fill_taken (planning_in a.terms a.book.now a.codebook.now a.lambda (level_number a.level) a.target.now a.predictor.now) l.a l.i _ l.invariant (omega (arith, c.loop-i-test.true)) _ c.plan_block-b.ensures

pub loop-i-preserved : goal.loop-i-preserved
loop-i-preserved c =
    let a = c.args in
    let l = c.loop-i in
    fill_passed (planning_in a.terms a.book.now a.codebook.now a.lambda (level_number a.level) a.target.now a.predictor.now) l.a l.i _ l.invariant (omega (arith, c.loop-i-test.true)) (sym c.in_tree.ensures ∙ c.if-in_tree.false)

pub returns : goal.returns
returns c = (fill_ends _ _ _ c.loop-i.invariant c.loop-i-test.false, c.loop-i.invariant.clean)
