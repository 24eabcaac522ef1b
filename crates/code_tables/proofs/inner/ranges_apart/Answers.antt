-- `inner::ranges_apart` meets its contract. The test of all ranges is what is left of it from range `i` on.
use Prim.Native.Nat.{ℕ, ◌+◌}
use mathlib.Core.Path.{◌≡◌, sym, ◌∙◌}
use mathlib.Core.Bool.{◌&&◌}
use mathlib.Core.List.{List}
use native.Mathlib.Omega.{arith}
use lib.Dec.{eqb}
use lib.ListN.{drop, get_or}
use borrow.Author.Tests.{eq-eqb, ne_eqb}
use Rattle.bits.specs.BasicsLaws.{part_from_lem}
use Rattle.code_tables.specs.RangeForms.{meetings, ranges_apart}
use Rattle.code_tables.specs.RangeFormsLaws.{apart_ranges_step, apart_ranges_end}
use Rattle.code_tables.proofs.inner.ranges_apart.Goals as goal
use Rattle.code_tables.proofs.inner.ranges_apart.Goals.{After-count_meetings}

-- a turn's step of the definition
step : (c : After-count_meetings) →
    let u = c in
    let a = u.args in
    let k = u.loop-i.i + 1 in
    ranges_apart a.lows.now a.highs.now ≡ (eqb c.count_meetings.result 0 && ranges_apart (drop k a.lows.now) (drop k a.highs.now))
step c =
    let u = c in
    let s = u in
    let l : List ℕ = s.args.lows.now in
    let h : List ℕ = s.args.highs.now in
    let i : ℕ = u.loop-i.i in
    let e : c.count_meetings.result ≡ meetings (get_or l i 0) (get_or h i 0) (drop (i + 1) l) (drop (i + 1) h) =
    rw (← part_from_lem (i + 1) l, ← part_from_lem (i + 1) h) c.count_meetings.ensures in
    u.loop-i.invariant ∙ apart_ranges_step l h i (omega arith) s.requires.0 ∙ rw (← e)

pub loop-i-preserved : goal.loop-i-preserved
loop-i-preserved c = step (goal.at.loop-i-preserved c).After-count_meetings ∙ rw (eq-eqb c.count_meetings.result 0 c.if-count_meetings-ne0.false)

pub returns-then-count_meetings-ne0 : goal.returns-then-count_meetings-ne0
returns-then-count_meetings-ne0 c = sym (step (goal.at.returns-then-count_meetings-ne0 c).After-count_meetings ∙ rw (ne_eqb c.count_meetings.result 0 c.if-count_meetings-ne0.true))

pub returns : goal.returns
returns c =
    let u = c in
    let a = u.args in
    sym (u.loop-i.invariant ∙ apart_ranges_end a.lows.now a.highs.now u.loop-i.i c.loop-i-test.false)
