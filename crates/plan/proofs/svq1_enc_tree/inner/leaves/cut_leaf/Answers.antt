-- Scratch cut to the size of the block. Assumes nothing.
use mathlib.Core.Path.{◌∙◌, ap}
use native.Mathlib.Omega.{arith}
use Rattle.book.specs.Level.{area}
use Rattle.tree.specs.GeometryLaws.{area_most}
use Rattle.tree_samples.specs.RebuildNeedsLaws.{cut-length}
use Rattle.book.specs.Level.{level_number}
use Rattle.book.specs.LevelLaws.{level_most}
use Rattle.plan.proofs.svq1_enc_tree.inner.leaves.cut_leaf.Goals as goal

pub slice_bounds-gathered_leaf-end : goal.slice_bounds-gathered_leaf-end
slice_bounds-gathered_leaf-end c =
    let n = c.vector_length-n.ensures in
    omega (arith, n, area_most (level_number c.level_of.result) (level_most c.level_of.result), c.requires.t_len.0)

pub slice_bounds-gathered_leaf-end-2 : goal.slice_bounds-gathered_leaf-end-2
slice_bounds-gathered_leaf-end-2 c =
    let n = c.vector_length-n.ensures in
    omega (arith, n, area_most (level_number c.level_of.result) (level_most c.level_of.result), c.requires.t_len.1)

pub gathered_leaf-requires : goal.gathered_leaf-requires
gathered_leaf-requires c =
    let a = c.args in
    let n = c.vector_length-n.ensures in
    let m = area_most (level_number c.level_of.result) (level_most c.level_of.result) in
    let e = n ∙ ap area c.level_of.ensures in record {
      leaf_ready = c.requires.leaf_ready;
      scratch = record {
        t_long = cut-length a.t.now _ (omega (arith, n, m, c.requires.t_len.0)) ∙ e;
        p_long = cut-length a.p.now _ (omega (arith, n, m, c.requires.t_len.1)) ∙ e;
        sums_long = c.requires.t_len.2;
        shown_long = c.requires.t_len.3;
      };
    }
