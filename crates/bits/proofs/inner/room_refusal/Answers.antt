-- `inner::room_refusal` meets its contract. 21 first, then whether the bits left are enough.
use Rattle.std.proofs.Common.{◌-◌, ◌*◌, ◌≡◌, sym, ◌∙◌, le-leb}
use Rattle.std.proofs.lemmas.Bool.{lt-leb}
use Rattle.bits.specs.Calls.{start_refusal, room_refusal}
use Rattle.bits.specs.CallsLaws.{met_first}
use Rattle.bits.proofs.inner.room_refusal.Goals as goal

pub returns-in-Err : goal.returns-in-Err
unfolding room_refusal
returns-in-Err c = c.number.ensures ∙ met_first _ _ _ c.in-Err.ensures

pub returns-then-width-bytes : goal.returns-then-width-bytes
unfolding room_refusal
returns-then-width-bytes c =
    let h : start_refusal c.args.bytes c.args.at ≡ 0 = sym c.in_default.ensures in
    sym (rw (h, le-leb c.args.width (8 * c.args.bytes - c.args.at) c.if-width-bytes.true))

pub returns : goal.returns
unfolding room_refusal
returns c =
    let h : start_refusal c.args.bytes c.args.at ≡ 0 = sym c.in_default.ensures in
    sym (rw (h, lt-leb c.args.width (8 * c.args.bytes - c.args.at) c.if-width-bytes.false))
