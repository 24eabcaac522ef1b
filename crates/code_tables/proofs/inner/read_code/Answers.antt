-- `inner::read_code` meets its contract. Looking at 32 bits is enough, since no code of a good table is longer.
use Prim.Native.Nat.{ℕ, ◌-◌, ◌*◌, ◌^◌, ◌<◌, min}
use mathlib.Core.Path.{◌≡◌, sym, ap, ◌∙◌}
use mathlib.Core.List.{List}
use native.Mathlib.Omega.{arith}
use lib.ListN.{length, take, drop, length-drop}
use Rattle.bits.specs.Basics.{pick}
use Rattle.bits.specs.Bits.{msb, bits_of}
use Rattle.bits.specs.BitsLaws.{length_msb, length_bits_of}
use Rattle.code_tables.specs.CodeReadLaws.{read_found, read_none}
use Rattle.code_tables.specs.Calls.{read_answer}
use Rattle.code_tables.specs.Codes.{NoCode, Ends, codes_of, read_code, any_start, code}
use Rattle.code_tables.specs.CodesLaws.{code_at, length_codes_of, code_fits}
use Rattle.bits.specs.ReadLaws.{run_lt, run-msb, take_min}
use Rattle.code_tables.proofs.inner.read_code.Goals as goal
use Rattle.code_tables.proofs.inner.read_code.Goals.{After-get_bits-w, In_default}

-- the window's bits are the next ones, at most 32
seen : (c : After-get_bits-w) →
    let a = c.args in
    msb c.window-m.result c.get_bits-w.result ≡ take 32 (drop a.at (bits_of a.s.now))
seen c =
    let a = c.args in
    let s : List ℕ = a.s.now in
    let m : ℕ = c.window-m.result in
    let left : length (drop a.at (bits_of s)) ≡ 8 * length s - a.at = length-drop a.at (bits_of s) ∙ ap (λ (n : ℕ). n - a.at) (length_bits_of s) in
    let e : m ≡ min 32 (length (drop a.at (bits_of s))) = rw left c.window-m.ensures in
    rw c.get_bits-w.ensures (run-msb s a.at m (omega arith) ∙ rw e (take_min 32 (drop a.at (bits_of s))))

small : (c : After-get_bits-w) → c.get_bits-w.result < 2 ^ c.window-m.result
small c =
    let a = c.args in
    rw c.get_bits-w.ensures (run_lt a.s.now a.at c.window-m.result (omega arith))

-- no code begins the bits
none : (c : In_default) →
    msb c.window-m.result c.get_bits-w.result ≡ take 32 (drop c.args.at (bits_of c.args.s.now)) →
    read_code (codes_of c.args.table.now) (bits_of c.args.s.now) c.args.at
    ≡ pick (any_start (codes_of c.args.table.now) (msb c.window-m.result c.get_bits-w.result)) Ends NoCode
none c seen_here =
    let t : List ℕ = c.args.table.now in
    rw seen_here (read_none (codes_of t) (bits_of c.args.s.now) c.args.at 32 (code_fits t c.requires.1)
    (λ k h. rw seen_here at (c.in_default.ensures k h)))

pub find_code-requires : goal.find_code-requires
find_code-requires c = (omega arith, small c, c.requires.1)

pub entry_len-requires : goal.entry_len-requires
entry_len-requires c = rw length_codes_of at c.in-Some.ensures.0

pub returns-in-Some : goal.returns-in-Some
returns-in-Some c =
    let t : List ℕ = c.args.table.now in
    let i : ℕ = c.in-Some.position in
    let f = c.in-Some.ensures in
    let seen_here = seen (goal.at.returns-in-Some c).After-get_bits-w in
    let n : length (code (codes_of t) i) ≡ c.entry_len.result = rw (code_at t i (rw length_codes_of at f.0), length_msb) (sym c.entry_len.ensures) in
    rw (← n) (sym (ap read_answer (read_found (codes_of t) (bits_of c.args.s.now) c.args.at 32 (code_fits t c.requires.1) i f.0
    (λ k h. rw seen_here at (f.1 k h)) (rw seen_here at f.2))))

pub any_start-requires : goal.any_start-requires
any_start-requires c = (omega arith, small (goal.at.any_start-requires c).After-get_bits-w, c.requires.1)

pub returns-then-any_start : goal.returns-then-any_start
returns-then-any_start c =
    sym (rw (none (goal.at.returns-then-any_start c).In_default (seen (goal.at.returns-then-any_start c).After-get_bits-w), ← c.any_start.ensures, c.if-any_start.true))

pub returns : goal.returns
returns c =
    sym (rw (none (goal.at.returns c).In_default (seen (goal.at.returns c).After-get_bits-w), ← c.any_start.ensures, c.if-any_start.false))
