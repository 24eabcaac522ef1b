-- A place is the stride times the row, plus the column. Assumes nothing.
use native.Mathlib.Omega.{arith}
use mathlib.Core.Path.{sym}
use native.Mathlib.Nat.{mul-le-mul}
use Rattle.tree_samples.specs.PlaceLaws.{place_is}
use Rattle.tree_samples.proofs.svq1_enc_tree.inner.place_of.Goals as goal

pub overflow_mul-result : goal.overflow_mul-result
overflow_mul-result c = omega (arith, mul-le-mul c.requires.1 c.row_of.ensures.1)

pub overflow_add-result : goal.overflow_add-result
overflow_add-result c = omega (arith, mul-le-mul c.requires.1 c.row_of.ensures.1)

pub returns : goal.returns
returns c =
    let a = c.args in
    (rw (c.row_of.ensures.0, c.column_of.ensures.0) (sym (place_is a.s a.i)), omega (arith, mul-le-mul c.requires.1 c.row_of.ensures.1))
