-- Asked only where the planes pass; then all products are small. Assumes nothing.
use mathlib.Core.Path.{sym, ◌∙◌}
use Rattle.bits.specs.CallsLaws.{told_none, told_some}
use Rattle.bits.specs.Refusals.{number_told}
use native.Mathlib.Omega.{arith}
use Rattle.picture.specs.RefusalsLaws.{behind_refused, sums_few, codes_few, enough, too_few}
use Rattle.picture.proofs.inner.allowance_refusal.Goals as goal

pub returns-then-is_some : goal.returns-then-is_some
returns-then-is_some c = sym (behind_refused _ _ (told_some _ (sym c.is_some.ensures ∙ c.if-is_some.true)))

pub mb_mode_bits-skip-requires : goal.mb_mode_bits-skip-requires
mb_mode_bits-skip-requires c = (c.requires (told_none _ (sym c.is_some.ensures ∙ c.if-is_some.false))).passes

pub blocks_of-requires : goal.blocks_of-requires
blocks_of-requires c = (c.requires (told_none _ (sym c.is_some.ensures ∙ c.if-is_some.false))).first

pub blocks_of-requires-2 : goal.blocks_of-requires-2
blocks_of-requires-2 c = (c.requires (told_none _ (sym c.is_some.ensures ∙ c.if-is_some.false))).second

pub blocks_of-requires-3 : goal.blocks_of-requires-3
blocks_of-requires-3 c = (c.requires (told_none _ (sym c.is_some.ensures ∙ c.if-is_some.false))).third

pub overflow_add-blocks : goal.overflow_add-blocks
overflow_add-blocks c =
    let a = c.args in
    omega (arith, (sums_few a.book.now a.canvas0 a.canvas1 a.canvas2 c.mb_mode_bits-skip.ensures c.blocks_of.ensures c.blocks_of-2.ensures c.blocks_of-3.ensures (c.requires (told_none _ (sym c.is_some.ensures ∙ c.if-is_some.false)))).0)

pub overflow_add-blocks-2 : goal.overflow_add-blocks-2
overflow_add-blocks-2 c =
    let a = c.args in
    omega (arith, (sums_few a.book.now a.canvas0 a.canvas1 a.canvas2 c.mb_mode_bits-skip.ensures c.blocks_of.ensures c.blocks_of-2.ensures c.blocks_of-3.ensures (c.requires (told_none _ (sym c.is_some.ensures ∙ c.if-is_some.false)))).1)

pub overflow_mul-skip : goal.overflow_mul-skip
overflow_mul-skip c =
    let a = c.args in
    omega (arith, codes_few a.book.now a.canvas0 a.canvas1 a.canvas2 c.mb_mode_bits-skip.ensures c.blocks_of.ensures c.blocks_of-2.ensures c.blocks_of-3.ensures (c.requires (told_none _ (sym c.is_some.ensures ∙ c.if-is_some.false))))

pub returns-then-skip-blocks : goal.returns-then-skip-blocks
returns-then-skip-blocks c =
    let a = c.args in
    enough a.book.now a.canvas0 a.canvas1 a.canvas2 c.mb_mode_bits-skip.ensures c.blocks_of.ensures c.blocks_of-2.ensures c.blocks_of-3.ensures (number_told a.before) a.allowance (told_none _ (sym c.is_some.ensures ∙ c.if-is_some.false)) c.if-skip-blocks.true

pub returns : goal.returns
returns c =
    let a = c.args in
    too_few a.book.now a.canvas0 a.canvas1 a.canvas2 c.mb_mode_bits-skip.ensures c.blocks_of.ensures c.blocks_of-2.ensures c.blocks_of-3.ensures (number_told a.before) a.allowance (told_none _ (sym c.is_some.ensures ∙ c.if-is_some.false)) c.if-skip-blocks.false
