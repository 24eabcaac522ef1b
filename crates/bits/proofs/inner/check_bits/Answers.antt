-- `inner::check_bits` meets its contract. 6 first, then what `check_room` says.
use Rattle.std.proofs.Common.{sym, ◌∙◌, le-leb}
use Rattle.std.proofs.lemmas.Bool.{lt-leb}
use Rattle.bits.specs.Calls.{bits_refusal}
use Rattle.bits.proofs.inner.check_bits.Goals as goal

pub returns-then-width-gt32 : goal.returns-then-width-gt32
unfolding bits_refusal
returns-then-width-gt32 c = sym (rw (lt-leb c.args.width 32 c.if-width-gt32.true))

pub returns : goal.returns
unfolding bits_refusal
returns c = c.check_room.ensures ∙ sym (rw (le-leb c.args.width 32 c.if-width-gt32.false))
