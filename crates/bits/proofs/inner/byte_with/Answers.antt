-- `inner::byte_with` meets its contract. The kept high bits and the new low ones make a byte.
use Prim.Native.Nat.{◌+◌, ◌*◌, ◌/◌, ◌^◌, ◌<◌}
use native.Mathlib.Omega.{arith}
use Rattle.bits.specs.BitsLaws.{byte_lt}
use Rattle.bits.proofs.inner.byte_with.Goals as goal
use Rattle.bits.proofs.inner.byte_with.Goals.{Start}

-- what the two parts come to
sum_lt : (c : Start) → c.args.b / 2 ^ c.args.k * 2 ^ c.args.k + c.args.v * 2 ^ c.args.z < 256
sum_lt c = byte_lt c.args.b c.args.k (c.args.v * 2 ^ c.args.z) c.ranges.b.fits c.requires.0 c.requires.2

pub overflow_add-result : goal.overflow_add-result
overflow_add-result c = omega (arith, sum_lt c)

pub overflow_cast-result : goal.overflow_cast-result
overflow_cast-result c = omega (arith, sum_lt c)

pub returns : goal.returns
returns c = omega (arith, sum_lt c)
