-- The tree's block is the whole of the slice's front. Assumes nothing.
use mathlib.Core.Path.{◌∙◌}
use native.Mathlib.Omega.{arith}
use Rattle.tree.specs.GeometryLaws.{area_most}
use Rattle.tree_samples.specs.RebuildNeedsLaws.{cut-length}
use Rattle.plan.specs.FrontNeedsLaws.{front_lies, front_shown}
use Rattle.book.specs.Level.{level_number}
use Rattle.plan.proofs.svq1_enc_tree.inner.plan_reconstruction.Goals as goal

pub slice_bounds-rebuild-end : goal.slice_bounds-rebuild-end
slice_bounds-rebuild-end c =
    let n = c.vector_length-n.ensures in
    omega (arith, n, area_most (level_number c.args.level) c.requires.five, c.requires.room)

pub rebuild-requires : goal.rebuild-requires
rebuild-requires c =
    let a = c.args in
    let n = c.vector_length-n.ensures in
    front_lies _ _ _ _ _ _ _ _ _ c.requires c.block_dims-s.ensures.0 c.first_of-root.ensures (cut-length a.out.now _ (omega (arith, n, area_most (level_number a.level) c.requires.five, c.requires.room)) ∙ n)

pub returns : goal.returns
returns c =
    let a = c.args in
    let n = c.vector_length-n.ensures in
    front_shown _ _ _ _ _ a.out.now _ _ _ _ c.requires.room c.requires.five n c.block_dims-s.ensures.0 c.first_of-root.ensures c.rebuild.auto.out c.rebuild.ensures
