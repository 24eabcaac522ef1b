-- `inner::find_code` meets its contract. No entry before `i` has a code that begins the bits.
use Prim.Native.Nat.{ℕ, ◌/◌, ◌<◌}
use mathlib.Core.Path.{◌≡◌, sym, ◌∙◌}
use mathlib.Core.List.{List}
use native.Mathlib.Omega.{arith}
use lib.ListN.{length}
use borrow.Author.Count.{below_more}
use Rattle.bits.specs.Bits.{msb}
use Rattle.code_tables.specs.Codes.{begins, codes_of, code}
use Rattle.code_tables.specs.CodesLaws.{good_is, code_at, length_codes_of}
use Rattle.code_tables.proofs.inner.find_code.Goals as goal
use Rattle.code_tables.proofs.inner.find_code.Goals.{After-begins_bits}

-- what the test says of the entry's code
tested : (c : After-begins_bits) →
    let u = c in
    let a = u.args in
    c.begins_bits.result ≡ begins (code (codes_of a.table.now) u.loop-i.i) (msb a.m a.w)
tested c =
    let u = c in
    let a = u.args in
    rw (code_at a.table.now u.loop-i.i (omega arith), ← c.entry_len.ensures, ← c.entry_val.ensures) c.begins_bits.ensures

pub begins_bits-requires : goal.begins_bits-requires
begins_bits-requires c =
    let u = c in
    let s = u in
    let g = good_is s.args.table.now s.requires.2 in
    let i : ℕ = u.loop-i.i in
    let h : i < length s.args.table.now / 3 = omega arith in
    (rw c.entry_len.ensures (g.long i h), s.requires.0, rw (c.entry_len.ensures, c.entry_val.ensures) (g.small i h), s.requires.1)

pub returns-then-begins_bits : goal.returns-then-begins_bits
returns-then-begins_bits c =
    let u = c in
    (rw length_codes_of (omega arith), u.loop-i.invariant, sym (tested (goal.at.returns-then-begins_bits c).After-begins_bits) ∙ c.if-begins_bits.true)

pub loop-i-preserved : goal.loop-i-preserved
loop-i-preserved c = below_more _ _ c.loop-i.invariant (sym (tested (goal.at.loop-i-preserved c).After-begins_bits) ∙ c.if-begins_bits.false)

pub returns : goal.returns
returns c =
    let t : List ℕ = c.args.table.now in
    λ k h. c.loop-i.invariant k (omega (arith, length_codes_of t))
