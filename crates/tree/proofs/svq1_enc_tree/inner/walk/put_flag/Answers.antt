-- No flag at L0, a 0 above it. Assumes nothing.
use native.Mathlib.Omega.{arith}
use Rattle.bits.specs.BitNeedsLaws.{wrote_none}
use Rattle.tree.specs.WalkNeedsLaws.{wrote_as, flag_none, flag_zero, flag_fits}
use Rattle.tree.proofs.svq1_enc_tree.inner.walk.put_flag.Goals as goal

pub returns-then-number-eq0 : goal.returns-then-number-eq0
returns-then-number-eq0 c = wrote_as _ _ (flag_none _ (rw c.number.ensures.0 at c.if-number-eq0.true)) (wrote_none _ _)

pub put_bits-requires : goal.put_bits-requires
put_bits-requires c = (omega arith, flag_fits _ (rw c.number.ensures.0 at c.if-number-eq0.false) c.requires)

pub returns : goal.returns
returns c = wrote_as _ _ (flag_zero _ (rw c.number.ensures.0 at c.if-number-eq0.false)) c.put_bits.ensures
