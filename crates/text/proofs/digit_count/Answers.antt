-- `text::digit_count` meets its contract: the digits counted and those of what is left are the number's. Assumes nothing.
use Prim.Native.Nat.{ℕ, suc, ◌+◌, ◌-◌}
use mathlib.Core.Path.{◌≡◌}
use native.Mathlib.Omega.{arith}
use Rattle.text.specs.Text.{decimal}
use Rattle.text.specs.WritingForms.{digit_count}
use Rattle.text.specs.PutLaws.{count_turn, count_last}
use Rattle.text.proofs.digit_count.Goals as goal

pub loop-m-preserved : goal.loop-m-preserved
loop-m-preserved c =
    let k : ℕ = c.loop-m.k in
    let m : ℕ = c.loop-m.m in
    let f : ℕ = 21 - (k + 1) in
    let e : 21 - k ≡ suc f = omega arith in
    let turn = count_turn f m (omega arith) (rw e at c.loop-m.invariant.2) in
    let count : k + digit_count (suc f) m ≡ 1 + digit_count 20 c.args.n = rw e at c.loop-m.invariant.3 in
    (omega arith, omega (arith, turn.0), turn.2, omega (arith, turn.1, count))

pub returns : goal.returns
unfolding decimal
returns c =
    let k : ℕ = c.loop-m.k in
    let e : 21 - k ≡ suc (20 - k) = omega arith in
    let count : k + digit_count (suc (20 - k)) c.loop-m.m ≡ 1 + digit_count 20 c.args.n = rw e at c.loop-m.invariant.3 in
    record { count = omega (arith, count, count_last (20 - k) c.loop-m.m (omega arith)); most = omega arith }
