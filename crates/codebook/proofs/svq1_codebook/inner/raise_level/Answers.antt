-- Before each turn the copy is there up to vector k of the level. Assumes nothing.
use mathlib.Core.Path.{◌≡◌, sym, ◌∙◌}
use Prim.Native.Nat.{◌+◌, ◌*◌}
use native.Mathlib.Omega.{arith}
use Rattle.codebook.specs.RaiseNeedsLaws.{vector_in, vector-begins, vector_next}
use Rattle.codebook.proofs.svq1_codebook.inner.raise_level.Goals as goal

pub loop-k-init : goal.loop-k-init
loop-k-init c =
    let a = c.args in
    let z : a.from + 0 * a.n ≡ a.from = omega arith in
    (omega arith, rw z c.requires.2)

pub overflow_mul-k : goal.overflow_mul-k
overflow_mul-k c = omega (arith, vector_in _ _ _ _ c.requires.1 _ c.loop-k-test.true)

pub overflow_add-from : goal.overflow_add-from
overflow_add-from c = omega (arith, vector_in _ _ _ _ c.requires.1 _ c.loop-k-test.true)

pub raise_vector-requires : goal.raise_vector-requires
raise_vector-requires c =
    let p = c.requires in
    (p.0, vector-begins _ _ _ _ p.1 _ _ _ c.loop-k-test.true c.loop-k.invariant.1)

pub loop-k-preserved : goal.loop-k-preserved
loop-k-preserved c = (omega arith, vector_next _ _ _ _ _ c.raise_vector.ensures)

pub shape_of-out : goal.shape_of-out
shape_of-out c = c.loop-k.invariant.1.size ∙ sym c.requires.2.size

pub returns : goal.returns
returns c =
    let l = c.loop-k in
    let z : l.k ≡ 192 = omega (arith, l.invariant.0, c.loop-k-test.false) in
    rw z at l.invariant.1
