-- Both sides are small. Assumes nothing.
use native.Mathlib.Omega.{arith}
use Rattle.picture.specs.RefusalsLaws.{few_blocks}
use Rattle.picture.proofs.inner.blocks_of.Goals as goal

pub overflow_mul-result : goal.overflow_mul-result
overflow_mul-result c = omega (arith, few_blocks c.args.canvas c.requires)
