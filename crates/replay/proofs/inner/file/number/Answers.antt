-- From the last byte to the first. Assumes nothing.
use mathlib.Core.Path.{◌≡◌, ◌∙◌}
use Prim.Native.Nat.{◌-◌}
use Rattle.replay.specs.LayoutLaws.{short, one_byte, no_byte, number_many, number_few}
use native.Mathlib.Omega.{arith}
use Rattle.replay.proofs.inner.file.number.Goals as goal

pub returns-then-t-gt8 : goal.returns-then-t-gt8
returns-then-t-gt8 c = number_many _ c.if-t-gt8.true

pub loop-i-init : goal.loop-i-init
loop-i-init c = (omega arith, omega arith, no_byte c.args.t.now)

pub overflow_mul-n : goal.overflow_mul-n
overflow_mul-n c =
    let l = c.loop-i in
    omega (arith, short c.args.t.now (λ k. omega (arith, c.type_inv.t k)) l.i l.n c.loop-i-test.true l.invariant.0 l.invariant.1 l.invariant.2)

pub overflow_add-n : goal.overflow_add-n
overflow_add-n c =
    let l = c.loop-i in
    omega (arith, c.type_inv.t (l.i - 1), short c.args.t.now (λ k. omega (arith, c.type_inv.t k)) l.i l.n c.loop-i-test.true l.invariant.0 l.invariant.1 l.invariant.2)

pub loop-i-preserved : goal.loop-i-preserved
loop-i-preserved c =
    let l = c.loop-i in
    (omega arith, l.invariant.1, rw c.from.ensures (one_byte c.args.t.now (λ k. omega (arith, c.type_inv.t k)) l.i l.n c.loop-i-test.true l.invariant.0 l.invariant.1 l.invariant.2))

pub returns : goal.returns
returns c =
    let l = c.loop-i in
    let z : l.i ≡ 0 = omega arith in
    (rw z at l.invariant.2) ∙ number_few c.args.t.now l.invariant.1
