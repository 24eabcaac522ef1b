-- `svq1_vlc::read_bits` meets its contract. Where nothing is refused the bits are there, and `get_bits` reads them.
use Rattle.std.proofs.Common.{rules, sym, length, arith}
use Rattle.bits.specs.Calls.{bits_at}
use Rattle.bits.specs.CallsLaws.{bits_passes, answer_met, answer_given}
use Rattle.bits.proofs.svq1_vlc.read_bits.Goals as goal

pub returns-in_err-check_bits : goal.returns-in_err-check_bits
unfolding bits_at
returns-in_err-check_bits c = search (rules, answer_met, c.in_err-check_bits.ensures)

pub get_bits-requires : goal.get_bits-requires
get_bits-requires c = bits_passes (length c.args.s.now) c.args.at c.args.width 24 (omega arith) (sym c.in_ok-check_bits.ensures)

pub overflow_add-result : goal.overflow_add-result
overflow_add-result c =
    let f = bits_passes (length c.args.s.now) c.args.at c.args.width 24 (omega arith) (sym c.in_ok-check_bits.ensures) in
    omega (arith, f.1.bits_fit, f.1.bytes_fit)

pub returns : goal.returns
unfolding bits_at
returns c = rw c.get_bits.ensures (sym (answer_given _ _ (sym c.in_ok-check_bits.ensures)))
