-- The recursion of the reconstruction; its measure is the level. Assumes nothing.
use mathlib.Core.Path.{◌∙◌, sym, ap}
use mathlib.Core.Logic.{inl, inr}
use Rattle.std.proofs.Common.{rules}
use native.Mathlib.Omega.{arith}
use Rattle.book.specs.Level.{level_number}
use Rattle.book.specs.LevelLaws.{part_below, no_part_below}
use Rattle.tree.specs.NodeForms.{tree_of}
use Rattle.tree.specs.TreeBits.{is_split}
use Rattle.tree.specs.WalkNeedsLaws.{tree_at}
use Rattle.tree_samples.specs.RebuildNeedsLaws.{turn_left, turn_right, turn_node, rebuilt_parts, rebuilt_leaf}
use Rattle.tree_samples.proofs.svq1_enc_tree.inner.rebuild.+rebuild.Goals as goal
use Rattle.tree_samples.proofs.svq1_enc_tree.inner.rebuild.+rebuild.Goals.{in-Some+else-is_split, in_default}

pub offset_bounds-blocks-i : goal.offset_bounds-blocks-i
offset_bounds-blocks-i t c = omega (arith, c.requires.lies.number)

pub bounds-blocks-i : goal.bounds-blocks-i
bounds-blocks-i t c = omega (arith, c.requires.lies.number)

pub overflow_mul-i : goal.overflow_mul-i
overflow_mul-i t c = omega (arith, c.requires.lies.number)

pub overflow_add-i : goal.overflow_add-i
overflow_add-i t c = omega (arith, c.requires.lies.number)

pub rebuild-requires : goal.rebuild-requires
rebuild-requires t c =
    let p = part_below (level_number c.args.level) _ c.in-Some.ensures in
    (omega (arith, p.0, p.1), rw p.1 (turn_left _ _ _ _ _ _ _ _ c.requires p.0))

pub overflow_mul-i-then-is_split : goal.overflow_mul-i-then-is_split
overflow_mul-i-then-is_split t c = omega (arith, c.requires.lies.number)

pub overflow_add-i-then-is_split : goal.overflow_add-i-then-is_split
overflow_add-i-then-is_split t c = omega (arith, c.requires.lies.number)

pub rebuild-requires-then-is_split : goal.rebuild-requires-then-is_split
rebuild-requires-then-is_split t c =
    let p = part_below (level_number c.args.level) _ c.in-Some.ensures in
    (omega (arith, p.0, p.1), rw (p.1, c.rebuild.auto.out) (turn_right _ _ _ _ _ _ _ _ c.requires p.0))

pub returns-then-is_split : goal.returns-then-is_split
returns-then-is_split t c =
    let a = c.args in
    let p = part_below (level_number a.level) _ c.in-Some.ensures in
    rebuilt_parts a.raised.now a.half a.s a.predictor.now (tree_of a.blocks) (level_number a.level) a.i _ _ _ p.0
    (ap is_split (tree_at a.blocks a.i) ∙ sym c.is_split.ensures ∙ c.if-is_split.true) (rw p.1 at c.rebuild.ensures) (rw p.1 at c.rebuild-then-is_split.ensures)

pub paint_node-requires : goal.paint_node-requires
paint_node-requires t c = turn_node _ _ _ _ _ _ _ _ c.requires _ (sym (tree_at c.args.blocks c.args.i))

pub returns : goal.returns
returns t c =
    let a = c.args in
    rebuilt_leaf a.raised.now a.half a.s a.predictor.now (tree_of a.blocks) (level_number a.level) a.i _ _ _ (sym (tree_at a.blocks a.i))
    (elim c.match-subdivide.branch [
      | in-Some+else-is_split w ↦ inr (ap is_split (tree_at a.blocks a.i) ∙ sym w.is_split.ensures ∙ w.if-is_split.false)
      | in_default w ↦ inl (search (rules, no_part_below, w.in_default.ensures))
    ]) c.paint_node.ensures
