-- `inner::check_room` meets its contract. 21 first, then whether the bits left are enough.
use Rattle.std.proofs.Common.{rules, ◌-◌, ◌*◌, sym, arith, le-leb}
use Rattle.std.proofs.lemmas.Bool.{lt-leb}
use Rattle.bits.specs.Calls.{room_refusal}
use Rattle.bits.specs.CallsLaws.{start_passes, met_first, met_behind}
use Rattle.bits.proofs.inner.check_room.Goals as goal

pub returns-in_err-check_start : goal.returns-in_err-check_start
unfolding room_refusal
returns-in_err-check_start c = search (rules, met_first, c.in_err-check_start.ensures)

pub overflow_mul-bytes : goal.overflow_mul-bytes
overflow_mul-bytes c = omega (arith, (start_passes c.args.bytes c.args.at (sym c.in_ok-check_start.ensures)).bytes_fit)

pub overflow_sub-bytes : goal.overflow_sub-bytes
overflow_sub-bytes c = omega (arith, (start_passes c.args.bytes c.args.at (sym c.in_ok-check_start.ensures)).bits_fit)

pub returns-then-bytes-at : goal.returns-then-bytes-at
unfolding room_refusal
returns-then-bytes-at c =
    met_behind _ _ _ c.in_ok-check_start.ensures (sym (rw (lt-leb c.args.width (8 * c.args.bytes - c.args.at) c.if-bytes-at.true)))

pub returns : goal.returns
unfolding room_refusal
returns c =
    met_behind _ _ _ c.in_ok-check_start.ensures (sym (rw (le-leb c.args.width (8 * c.args.bytes - c.args.at) c.if-bytes-at.false)))
