-- The blocks by number; one that is not reached stays off. Assumes nothing.
use mathlib.Core.Path.{◌∙◌, sym}
use Rattle.plan.specs.PlannedFormsLaws.{blank}
use Rattle.plan.specs.PlannedForms.{CleanChoice}
use Rattle.bits.specs.ListLaws.{all_at}
use Rattle.plan.specs.GrowLaws.{grow-begins, grow_ends, grow_passed, grow-taken, grow-moved}
use borrow.Author.Rules.{rules}
use Rattle.plan.proofs.svq1_enc_tree.inner.grow_tree.Goals as goal
use Rattle.plan.proofs.svq1_enc_tree.inner.grow_tree.Goals.{then-is_reached, else-is_reached}

pub loop-i-init : goal.loop-i-init
loop-i-init c = grow-begins _ _ _ c.no_blocks-t.ensures

pub block_as-requires : goal.block_as-requires
block_as-requires c = all_at CleanChoice c.args.a _ blank (search rules) c.requires

pub loop-i-preserved : goal.loop-i-preserved
loop-i-preserved c =
    let l = c.loop-i in
    let r = sym c.is_reached.ensures in
    elim c.if-is_reached.branch [
      | then-is_reached w ↦ grow-moved _ _ _ _ _ w.t-is (grow-taken _ _ l.t l.i l.invariant c.loop-i-test.true _ (r ∙ w.if-is_reached.true) w.block_as.ensures.0 w.block_as.ensures.1)
      | else-is_reached w ↦ grow-moved _ _ _ _ _ w.t-is (grow_passed _ _ l.t l.i l.invariant c.loop-i-test.true (r ∙ w.if-is_reached.false))
    ]

pub returns : goal.returns
returns c = (grow_ends _ _ c.loop-i.t c.loop-i.i c.loop-i.invariant c.loop-i-test.false, c.loop-i.invariant.clean)
