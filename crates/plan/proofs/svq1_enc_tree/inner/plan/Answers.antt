-- The planned blocks make the plan's tree, and its root weighs what the plan states. Assumes nothing.
use native.Mathlib.Omega.{arith}
use Rattle.tree.specs.GeometryLaws.{at_first}
use Rattle.plan.specs.PlanNeedsLaws.{plan_found}
use Rattle.plan.specs.PlanNeeds.{planning_in}
use Rattle.book.specs.Level.{level_number}
use Rattle.plan.proofs.svq1_enc_tree.inner.plan.Goals as goal

pub offset_bounds-a-root : goal.offset_bounds-a-root
offset_bounds-a-root c = omega (arith, c.first_of-root.ensures, (at_first (level_number c.args.level) c.requires.five).1)

pub bounds-a-root : goal.bounds-a-root
bounds-a-root c = omega (arith, c.first_of-root.ensures, (at_first (level_number c.args.level) c.requires.five).1)

pub grow_tree-blocks-requires : goal.grow_tree-blocks-requires
grow_tree-blocks-requires c = c.plan_blocks-a.ensures.1

pub returns : goal.returns
returns c =
    let a = c.args in
    plan_found (planning_in a.terms a.book.now a.codebook.now a.lambda (level_number a.level) a.target.now a.predictor.now) c.requires.five c.plan_blocks-a.result c.plan_blocks-a.ensures.0 _ c.first_of-root.ensures _ c.grow_tree-blocks.ensures.0 c.grow_tree-blocks.ensures.1
