-- The size first, then the bytes.
use Rattle.std.proofs.Common.{rules, sym, arith}
use Rattle.plane_room.specs.CallsLaws.{sides_most, any_refused, any_bytes}
use Rattle.plane_room.proofs.plane_room.Goals as goal

pub returns-in_err-check_size : goal.returns-in_err-check_size
returns-in_err-check_size c = search (rules, any_refused, c.in_err-check_size.ensures)

pub room_bytes-requires : goal.room_bytes-requires
room_bytes-requires c =
    let m = sides_most c.args.width c.args.height (sym c.in_ok-check_size.ensures) in
    (m.0, m.1, omega arith)

pub returns : goal.returns
returns c = any_bytes c.args.width c.args.height c.room_bytes.result (sym c.in_ok-check_size.ensures) c.room_bytes.ensures
