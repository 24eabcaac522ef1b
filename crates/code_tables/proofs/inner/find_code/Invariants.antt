use Prim.Native.Nat.{ℕ, ◌<◌}
use mathlib.Core.Path.{◌≡◌}
use mathlib.Core.Bool.{false}
use Rattle.bits.specs.Bits.{msb}
use Rattle.code_tables.specs.Codes.{begins, codes_of, code}
use Rattle.code_tables.proofs.inner.find_code.Given as goal

abbrev pub invariant-loop-i : goal.invariant-loop-i
invariant-loop-i l = (k : ℕ) → k < l.i → begins (code (codes_of l.table) k) (msb l.m l.w) ≡ false
