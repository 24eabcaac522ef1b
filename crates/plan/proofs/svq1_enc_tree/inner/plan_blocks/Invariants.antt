use Rattle.plan.specs.PlanNeeds.{planning_in}
use Rattle.plan.specs.PlanNeedsLaws.{Filling}
use Rattle.book.specs.Level.{level_number}
use Rattle.plan.proofs.svq1_enc_tree.inner.plan_blocks.Given as goal

abbrev pub invariant-loop-i : goal.invariant-loop-i
invariant-loop-i l = Filling (planning_in l.terms l.book l.codebook l.lambda (level_number l.level) l.target l.predictor) l.a l.i
