-- `svq1_enc::push_code` meets its contract. Where nothing is refused the code fits, and `put_code` writes it.
use Rattle.std.proofs.Common.{sym, length}
use Rattle.code_tables.specs.CallsLaws.{code_passes}
use Rattle.code_tables.proofs.svq1_enc.push_code.Goals as goal

pub put_code-requires : goal.put_code-requires
put_code-requires c =
    let f = code_passes (length c.args.out.now) c.args.at c.args.table.now c.args.position (sym c.in_ok-check_code.ensures) in
    (f.entry, f.fits)
