-- `inner::range_end` meets its contract. A range's end has 32 bits, so that its parts fit too.
use Prim.Native.Nat.{◌+◌, ◌-◌, ◌*◌, ◌<◌}
use native.Mathlib.Omega.{arith}
use Rattle.code_tables.specs.RangeFormsLaws.{end_small}
use Rattle.code_tables.proofs.inner.range_end.Goals as goal
use Rattle.code_tables.proofs.inner.range_end.Goals.{After-power_of_two-size}

small : (c : After-power_of_two-size) →
    let a = c.args in
    let size = c.power_of_two-size.result in
    a.v * size + a.e * (size - 1) < 4294967296
small c =
    let s = c in
    rw c.power_of_two-size.ensures.0 (end_small s.args.e s.args.v s.args.n s.requires.0 s.requires.2 s.requires.3)

pub overflow_mul-result : goal.overflow_mul-result
overflow_mul-result c = omega (arith, small c)

pub overflow_add-result : goal.overflow_add-result
overflow_add-result c = omega (arith, small c)

pub overflow_cast-result : goal.overflow_cast-result
overflow_cast-result c = omega (arith, small c)
