-- The block lies in the plane, since it lies under the plane's root.
use mathlib.Core.Path.{ap, ◌∙◌}
use native.Mathlib.Omega.{arith}
use Rattle.book.specs.Level.{level_number, width, height}
use Rattle.tree_samples.specs.SubtreeFormsLaws.{block_rows, block_is, width_most}
use Rattle.plan.proofs.svq1_enc_tree.inner.leaves.block_of.Goals as goal

pub place_of-requires : goal.place_of-requires
place_of-requires c = (c.requires.block, omega (arith, c.block_dims-whole.ensures.0, width_most (level_number c.args.level) c.requires.five))

pub gather_block-requires : goal.gather_block-requires
gather_block-requires c =
    let q = c.requires in
    let a = c.args in
    let e = c.level_of.ensures in
    block_rows (level_number a.level) a.i _ _ q c.block_dims-whole.ensures.0 (c.block_dims-dims.ensures.1 ∙ ap height e) (c.block_dims-dims.ensures.0 ∙ ap width e) c.place_of.ensures.0

pub returns : goal.returns
returns c =
    let a = c.args in
    let e = c.level_of.ensures in
    c.gather_block.ensures ∙ block_is (level_number a.level) a.i _ c.block_dims-whole.ensures.0 (c.block_dims-dims.ensures.1 ∙ ap height e) (c.block_dims-dims.ensures.0 ∙ ap width e) c.place_of.ensures.0
