-- `inner::range_ends` meets its contract. The first `i` ends are there.
use Prim.Native.Nat.{ℕ, ◌/◌, ◌<◌}
use mathlib.Core.Path.{◌≡◌, sym, ◌∙◌}
use mathlib.Core.List.{List}
use native.Mathlib.Omega.{arith}
use lib.ListN.{length, get_or, length-set}
use Rattle.bits.specs.FillLaws.{fill_step, fill_end}
use Rattle.code_tables.specs.CodesLaws.{good_is}
use Rattle.code_tables.specs.RangeForms.{range_ends}
use Rattle.code_tables.specs.RangeFormsLaws.{length_ends, end_at}
use Rattle.code_tables.proofs.inner.range_ends.Goals as goal
use Rattle.code_tables.proofs.inner.range_ends.Goals.{In-loop-i}

-- there is an entry for every place
entry : (c : In-loop-i) → c.loop-i.i < length c.args.table.now / 3
entry c = omega (arith, c.loop-i-test.true, c.requires.2)

pub range_end-requires : goal.range_end-requires
range_end-requires c =
    let t = c in
    let s = t in
    let g = good_is s.args.table.now s.requires.1 in
    let i : ℕ = t.loop-i.i in
    let h = entry (goal.at.range_end-requires c).In-loop-i in
    (s.requires.0, rw c.entry_len.ensures (g.some i h), rw c.entry_len.ensures (g.long i h), rw (c.entry_len.ensures, c.entry_val.ensures) (g.small i h))

pub loop-i-preserved : goal.loop-i-preserved
loop-i-preserved c =
    let t = c in
    let u = t in
    let s = u in
    let table : List ℕ = s.args.table.now in
    let e : ℕ = s.args.e in
    let i : ℕ = u.loop-i.i in
    let h = entry (goal.at.loop-i-preserved c).In-loop-i in
    let end : c.range_end.result ≡ get_or (range_ends e table) i 0 =
    rw (end_at e table i h, ← c.entry_len.ensures, ← c.entry_val.ensures) c.range_end.ensures in
    (length-set u.loop-i.out i _ ∙ u.loop-i.invariant.0, fill_step (range_ends e table) u.loop-i.out i _ (omega arith) (omega (arith, length_ends e table)) u.loop-i.invariant.1 end)

pub returns : goal.returns
returns c =
    let u = c in
    let s = u in
    let table : List ℕ = s.args.table.now in
    let size : length (range_ends s.args.e table) ≡ length s.args.out.now = length_ends s.args.e table ∙ sym s.requires.2 in
    fill_end (range_ends s.args.e table) u.loop-i.out u.loop-i.i (u.loop-i.invariant.0 ∙ sym size) (omega arith) u.loop-i.invariant.1
