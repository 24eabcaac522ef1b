-- Before each turn the first b bytes of the vector are in their places; the four that follow go where the table puts the first of them.
-- Assumes nothing.
use mathlib.Core.Path.{sym, ◌∙◌}
use native.Mathlib.Omega.{arith}
use Rattle.codebook.specs.RaiseNeedsLaws.{next_four, fill_four, fill_end}
use Rattle.codebook.proofs.svq1_codebook.inner.raise_vector.Goals as goal

pub loop-b-init : goal.loop-b-init
loop-b-init c = c.requires.1

pub overflow_add-i : goal.overflow_add-i
overflow_add-i c =
    let f = next_four _ _ _ _ _ _ _ c.loop-b.invariant c.loop-b-test.true in
    omega arith

pub bounds-order-i : goal.bounds-order-i
bounds-order-i c =
    let f = next_four _ _ _ _ _ _ _ c.loop-b.invariant c.loop-b-test.true in
    omega arith

pub overflow_cast-p : goal.overflow_cast-p
overflow_cast-p c =
    let f = next_four _ _ _ _ _ _ _ c.loop-b.invariant c.loop-b-test.true in
    omega arith

pub overflow_add-at : goal.overflow_add-at
overflow_add-at c =
    let f = next_four _ _ _ _ _ _ _ c.loop-b.invariant c.loop-b-test.true in
    omega arith

pub overflow_add-at-in-loop-b : goal.overflow_add-at-in-loop-b
overflow_add-at-in-loop-b c =
    let f = next_four _ _ _ _ _ _ _ c.loop-b.invariant c.loop-b-test.true in
    omega arith

pub raise_four-requires : goal.raise_four-requires
raise_four-requires c =
    let f = next_four _ _ _ _ _ _ _ c.loop-b.invariant c.loop-b-test.true in
    let z = c.loop-b.invariant.placed.before.size in
    (omega arith, omega arith)

pub overflow_add-b : goal.overflow_add-b
overflow_add-b c =
    let f = next_four _ _ _ _ _ _ _ c.loop-b.invariant c.loop-b-test.true in
    omega arith

pub loop-b-smaller : goal.loop-b-smaller
loop-b-smaller c =
    let f = next_four _ _ _ _ _ _ _ c.loop-b.invariant c.loop-b-test.true in
    omega arith

pub loop-b-preserved : goal.loop-b-preserved
loop-b-preserved c =
    rw c.raise_four.ensures
    (fill_four _ _ _ _ _ _ _ c.loop-b.invariant c.loop-b-test.true)

pub shape_of-out : goal.shape_of-out
shape_of-out c = c.loop-b.invariant.placed.before.size ∙ sym c.requires.1.placed.before.size

pub returns : goal.returns
returns c = fill_end _ _ _ _ _ _ _ c.loop-b.invariant c.loop-b-test.false
