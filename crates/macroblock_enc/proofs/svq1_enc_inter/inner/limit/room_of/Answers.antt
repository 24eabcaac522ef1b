-- One case for each limit. Assumes nothing.
use native.Mathlib.Omega.{arith}
use Rattle.macroblock_enc.specs.LimitFormsLaws.{within_reserved, within_room}
use Rattle.macroblock_enc.proofs.svq1_enc_inter.inner.limit.room_of.Goals as goal

pub overflow_add-result : goal.overflow_add-result
overflow_add-result c = let r = within_reserved _ _ _ _ _ _ c.in-Some.is c.requires in omega (arith, r.1)

pub overflow_mul-result : goal.overflow_mul-result
overflow_mul-result c = let r = within_reserved _ _ _ _ _ _ c.in-Some.is c.requires in omega (arith, r.0)

pub overflow_add-result-in-Some : goal.overflow_add-result-in-Some
overflow_add-result-in-Some c = let r = within_reserved _ _ _ _ _ _ c.in-Some.is c.requires in omega (arith, r.0)

pub overflow_sub-result : goal.overflow_sub-result
overflow_sub-result c = let r = within_reserved _ _ _ _ _ _ c.in-Some.is c.requires in omega (arith, r.0)

pub returns-in-Some : goal.returns-in-Some
returns-in-Some c = let a = c.args in within_room a.limit _ _ a.spent a.skip a.left c.in-Some.is
