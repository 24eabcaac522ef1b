-- Both blocks are gathered, then searched. Assumes nothing.
use mathlib.Core.Path.{◌∙◌, sym, ap}
use Rattle.book.specs.Level.{area}
use Rattle.plan.specs.PlanNeedsLaws.{block_leaf}
use Rattle.book.specs.LevelLaws.{level_most}
use Rattle.plan.proofs.svq1_enc_tree.inner.leaves.gathered_leaf.Goals as goal

pub level_leaf-requires : goal.level_leaf-requires
level_leaf-requires c =
    let e = c.level_of.ensures in
    let q = c.requires in
    record {
      level = level_most c.level_of.result;
      target = c.block_of.auto.out ∙ q.scratch.t_long ∙ ap area (sym e);
      predictor = c.block_of-2.auto.out ∙ q.scratch.p_long ∙ ap area (sym e);
      sums = q.scratch.sums_long;
      samples = q.scratch.shown_long;
      copy = q.leaf_ready.copied;
      stages = q.leaf_ready.few;
    }

pub returns : goal.returns
returns c =
    let e = c.level_of.ensures in
    block_leaf _ _ _ _ _ _ _ _ _ _ _ _ e (c.block_of.auto.out ∙ c.requires.scratch.t_long) c.block_of.ensures c.block_of-2.ensures c.level_leaf.ensures
