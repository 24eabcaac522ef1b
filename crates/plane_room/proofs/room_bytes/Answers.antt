-- Sums and products far from overflowing.
use native.Mathlib.Omega.{arith}
use Rattle.plane_room.specs.CallsLaws.{few_blocks, few_bits}
use Rattle.plane_room.proofs.room_bytes.Goals as goal

pub overflow_mul-result : goal.overflow_mul-result
overflow_mul-result c = omega (arith, few_blocks c.args.width c.args.height c.requires.0 c.requires.1)

pub overflow_mul-result-2 : goal.overflow_mul-result-2
overflow_mul-result-2 c = omega (arith, few_bits c.args.width c.args.height c.requires.0 c.requires.1 c.args.bits c.requires.2)

pub overflow_add-result-3 : goal.overflow_add-result-3
overflow_add-result-3 c = omega (arith, few_bits c.args.width c.args.height c.requires.0 c.requires.1 c.args.bits c.requires.2)
