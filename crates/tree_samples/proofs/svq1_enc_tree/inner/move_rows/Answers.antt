-- What is moved and what is left to move is the whole. Assumes nothing.
use Prim.Native.Nat.{◌+◌, ◌-◌}
use mathlib.Core.Path.{◌≡◌, refl, ◌∙◌}
use Rattle.bits.specs.FillLaws.{length_run}
use Rattle.tree_samples.specs.RowFormsLaws.{move_room, move_turn, move_end}
use native.Mathlib.Omega.{arith}
use Rattle.tree_samples.proofs.svq1_enc_tree.inner.move_rows.Goals as goal

pub loop-row-init : goal.loop-row-init
loop-row-init c =
    let e : c.args.h - 0 ≡ c.args.h = omega arith in
    rw e (c.requires, refl, refl)

pub overflow_add-p : goal.overflow_add-p
overflow_add-p c = omega (arith, move_room _ _ _ _ _ _ _ _ c.loop-row.invariant.0 (omega (arith, c.loop-row-test.true)))

pub slice_bounds-put_row-count : goal.slice_bounds-put_row-count
slice_bounds-put_row-count c = omega (arith, move_room _ _ _ _ _ _ _ _ c.loop-row.invariant.0 (omega (arith, c.loop-row-test.true)))

pub slice_bounds-put_row-start : goal.slice_bounds-put_row-start
slice_bounds-put_row-start c = omega (arith, move_room _ _ _ _ _ _ _ _ c.loop-row.invariant.0 (omega (arith, c.loop-row-test.true)))

pub slice_bounds-put_row-end : goal.slice_bounds-put_row-end
slice_bounds-put_row-end c = omega (arith, move_room _ _ _ _ _ _ _ _ c.loop-row.invariant.0 (omega (arith, c.loop-row-test.true)))

pub put_row-requires : goal.put_row-requires
put_row-requires c =
    let s = c.loop-row in
    let a = c.args in
    let r = move_room _ _ _ _ _ _ _ _ s.invariant.0 (omega (arith, c.loop-row-test.true)) in
    omega (arith, length_run a.m.now s.p a.w r.1)

pub overflow_add-p-in-loop-row : goal.overflow_add-p-in-loop-row
overflow_add-p-in-loop-row c = omega (arith, move_room _ _ _ _ _ _ _ _ c.loop-row.invariant.0 (omega (arith, c.loop-row-test.true)))

pub overflow_add-q : goal.overflow_add-q
overflow_add-q c = omega (arith, move_room _ _ _ _ _ _ _ _ c.loop-row.invariant.0 (omega (arith, c.loop-row-test.true)))

pub loop-row-preserved : goal.loop-row-preserved
loop-row-preserved c =
    let s = c.loop-row in
    let t = move_turn _ _ _ _ _ _ _ _ _ (omega (arith, c.loop-row-test.true)) s.invariant.0 c.put_row.ensures in
    let e : c.args.h - (s._row + 1) ≡ c.args.h - s._row - 1 = omega arith in
    rw e (t.0, t.1 ∙ s.invariant.1, t.2 ∙ s.invariant.2)

pub shape_of-out : goal.shape_of-out
shape_of-out c = c.loop-row.invariant.1

pub returns : goal.returns
returns c = move_end _ _ _ _ _ _ _ _ _ (omega (arith, c.loop-row-test.false)) c.loop-row.invariant.2
