-- `inner::count_meetings` meets its contract. The meetings counted, and those from `k` on, are all.
use Prim.Native.Nat.{ℕ}
use native.Mathlib.Omega.{arith}
use Rattle.code_tables.specs.RangeFormsLaws.{meetings-step, meetings_end}
use Rattle.code_tables.proofs.inner.count_meetings.Goals as goal

pub loop-k-preserved : goal.loop-k-preserved
loop-k-preserved c =
    let u = c in
    let s = u in
    let a = s.args in
    let k : ℕ = u.loop-k.k in
    let step = meetings-step a.low a.high a.lows.now a.highs.now k (omega arith) s.requires.0 in
    (omega (arith, c.meets-met.ensures.1), omega (arith, step, c.meets-met.ensures.0, u.loop-k.invariant.1))

pub returns : goal.returns
returns c =
    let u = c in
    let a = u.args in
    omega (arith, meetings_end a.low a.high a.lows.now a.highs.now u.loop-k.k c.loop-k-test.false, u.loop-k.invariant.1)
