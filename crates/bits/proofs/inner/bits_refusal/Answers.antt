-- `inner::bits_refusal` meets its contract. 6 first, then what `room_refusal` says.
use Rattle.std.proofs.Common.{sym, ◌∙◌, le-leb}
use Rattle.std.proofs.lemmas.Bool.{lt-leb}
use Rattle.bits.specs.Calls.{bits_refusal}
use Rattle.bits.proofs.inner.bits_refusal.Goals as goal

pub returns-then-width-le32 : goal.returns-then-width-le32
unfolding bits_refusal
returns-then-width-le32 c = c.room_refusal.ensures ∙ sym (rw (le-leb c.args.width 32 c.if-width-le32.true))

pub returns : goal.returns
unfolding bits_refusal
returns c = c.number.ensures ∙ sym (rw (lt-leb c.args.width 32 c.if-width-le32.false))
