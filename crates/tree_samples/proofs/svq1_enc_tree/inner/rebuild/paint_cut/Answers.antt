-- Scratch cut to the size of the block. Assumes nothing.
use Rattle.tree_samples.specs.RebuildNeedsLaws.{five, cut-length}
use Rattle.tree.specs.GeometryLaws.{area_most}
use mathlib.Core.Path.{◌∙◌}
use native.Mathlib.Omega.{arith}
use Rattle.book.specs.Level.{level_number}
use Rattle.tree_samples.proofs.svq1_enc_tree.inner.rebuild.paint_cut.Goals as goal

pub slice_bounds-paint_leaf-end : goal.slice_bounds-paint_leaf-end
slice_bounds-paint_leaf-end c =
    let s = c in
    let most = area_most (level_number s.args.level) (five _ _ _ _ _ s.requires.drawing.lies) in
    let n = c.vector_length-n.ensures in
    omega (arith, n, most, s.requires.under_len.0)

pub slice_bounds-paint_leaf-end-2 : goal.slice_bounds-paint_leaf-end-2
slice_bounds-paint_leaf-end-2 c =
    let s = c in
    let most = area_most (level_number s.args.level) (five _ _ _ _ _ s.requires.drawing.lies) in
    let n = c.vector_length-n.ensures in
    omega (arith, n, most, s.requires.under_len.1)

pub slice_bounds-paint_leaf-end-3 : goal.slice_bounds-paint_leaf-end-3
slice_bounds-paint_leaf-end-3 c =
    let s = c in
    let most = area_most (level_number s.args.level) (five _ _ _ _ _ s.requires.drawing.lies) in
    let n = c.vector_length-n.ensures in
    omega (arith, n, most, s.requires.under_len.2)

pub paint_leaf-requires : goal.paint_leaf-requires
paint_leaf-requires c =
    let s = c in
    let most = area_most (level_number s.args.level) (five _ _ _ _ _ s.requires.drawing.lies) in
    let n = c.vector_length-n.ensures in record {
      drawing = s.requires.drawing;
      cells = record {
        predictor = cut-length s.args.under.now _ (omega (arith, n, most, s.requires.under_len.0)) ∙ n;
        totals = cut-length s.args.sums.now _ (omega (arith, n, most, s.requires.under_len.1)) ∙ n;
        samples = cut-length s.args.over.now _ (omega (arith, n, most, s.requires.under_len.2)) ∙ n;
      };
    }
