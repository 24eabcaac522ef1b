-- `svq1_enc::check_code` meets its contract. The position, the table's refusals, then the room's.
use Rattle.std.proofs.Common.{rules, ◌/◌, sym, length, le-ltb, lt-ltb}
use Rattle.bits.specs.CallsLaws.{met_first, met_behind}
use Rattle.code_tables.specs.Calls.{code_refusal}
use Rattle.code_tables.proofs.svq1_enc.check_code.Goals as goal

pub returns-then-table-position : goal.returns-then-table-position
unfolding code_refusal
returns-then-table-position c = sym (rw (le-ltb c.args.position (length c.args.table.now / 3) c.if-table-position.true))

pub returns-in_err-check_table : goal.returns-in_err-check_table
unfolding code_refusal
returns-in_err-check_table c =
    rw (lt-ltb c.args.position (length c.args.table.now / 3) c.if-table-position.false) (search (rules, met_first, c.in_err-check_table.ensures))

pub returns : goal.returns
unfolding code_refusal
returns c =
    rw (lt-ltb c.args.position (length c.args.table.now / 3) c.if-table-position.false)
    (met_behind _ _ _ c.in_ok-check_table.ensures (rw c.entry_len.ensures at c.check_room.ensures))
