-- The block's predictor gathered, the leaf shown over it, and painted. Assumes nothing.
use Rattle.tree_samples.specs.RebuildNeedsLaws.{five, rows_under, rows_over, code_shows, leaf_painted}
use Rattle.tree.specs.GeometryLaws.{area_most}
use mathlib.Core.Path.{◌∙◌, sym}
use native.Mathlib.Omega.{arith}
use borrow.Author.Rules.{rules}
use Rattle.book.specs.Level.{level_number}
use Rattle.tree_samples.proofs.svq1_enc_tree.inner.rebuild.paint_leaf.Goals as goal

pub gather_block-requires : goal.gather_block-requires
gather_block-requires c =
    let s = c in
    rows_under s.args.s (level_number s.args.level) s.args.i _ _ _ _ _ s.requires.drawing.lies c.place_of-at.ensures.0 c.block_dims-dims.ensures.0 c.block_dims-dims.ensures.1 _ s.requires.cells.predictor

pub show_leaf-requires : goal.show_leaf-requires
show_leaf-requires c =
    let s = c in
    let u = c.gather_block.auto.out ∙ s.requires.cells.predictor in
    let most = area_most (level_number s.args.level) (five _ _ _ _ _ s.requires.drawing.lies) in (
      record { few = omega (arith, u, most); sums = s.requires.cells.totals ∙ sym u; shown = s.requires.cells.samples ∙ sym u },
      code_shows s.args.half (level_number s.args.level) _ _ _ s.args.code s.args.stages (search rules) s.requires.drawing.sound s.requires.drawing.copy (rw c.number.ensures.0 at c.page_start-page.ensures) u,
    )

pub paint_block-requires : goal.paint_block-requires
paint_block-requires c =
    let s = c in
    rows_over s.args.s (level_number s.args.level) s.args.i _ _ _ _ _ s.requires.drawing.lies c.place_of-at.ensures.0 c.block_dims-dims.ensures.0 c.block_dims-dims.ensures.1 _ (c.show_leaf.auto.out ∙ s.requires.cells.samples)

pub returns : goal.returns
returns c =
    let s = c in
    leaf_painted s.args.s (level_number s.args.level) s.args.i _ _ _ _ s.args.predictor.now s.args.raised.now _ _ _ s.args.half _ s.requires.drawing.lies.deep c.place_of-at.ensures.0 c.block_dims-dims.ensures.0 c.block_dims-dims.ensures.1
    (rw c.number.ensures.0 at c.page_start-page.ensures) s.requires.drawing.lies.predictor _ c.gather_block.ensures c.show_leaf.ensures c.paint_block.ensures
