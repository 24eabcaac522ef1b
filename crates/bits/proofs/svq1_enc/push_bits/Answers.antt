-- `svq1_enc::push_bits` meets its contract. Where nothing is refused the bits fit, and `put_bits` writes them.
use Rattle.std.proofs.Common.{rules, sym, length, arith}
use Rattle.bits.specs.CallsLaws.{bits_passes, put_refused, put_done}
use Rattle.bits.proofs.svq1_enc.push_bits.Goals as goal

pub returns-in_err-check_bits : goal.returns-in_err-check_bits
returns-in_err-check_bits c = search (rules, put_refused, c.in_err-check_bits.ensures)

pub put_bits-requires : goal.put_bits-requires
put_bits-requires c = bits_passes (length c.args.out.now) c.args.at c.args.width 22 (omega arith) (sym c.in_ok-check_bits.ensures)

pub returns : goal.returns
returns c = put_done _ _ _ _ _ _ (sym c.in_ok-check_bits.ensures) c.put_bits.ensures.behind c.put_bits.ensures.bits
