-- `inner::part_of` meets its contract. A shift and a remainder; 1 shifted by at most 8 does not wrap.
use Prim.Native.Nat.{ℕ, ◌*◌, ◌/◌, ◌%◌, ◌^◌, ◌≤◌}
use mathlib.Core.Path.{◌≡◌, ap}
use native.Mathlib.Omega.{arith}
use lib.Pow.{pow_mono, pow_pos}
use Rattle.bits.proofs.inner.part_of.Goals as goal

one_shl : (n : ℕ) → n ≤ 8 → 1 * 2 ^ n % 4294967296 ≡ 2 ^ n
one_shl n h = let m : 2 ^ n ≤ 256 = pow_mono h in omega arith

pub nonzero_rem-result : goal.nonzero_rem-result
nonzero_rem-result c = omega (arith, one_shl c.args.n c.requires.1, pow_pos c.args.n)

pub returns : goal.returns
returns c = ap (λ (m : ℕ). c.args.value / 2 ^ c.args.down % m) (one_shl c.args.n c.requires.1)
