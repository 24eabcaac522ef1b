-- `svq1_vlc::read_code` meets its contract. The table's refusals, then the start bit's; where there is none, what `inner::read_code` finds.
use Rattle.std.proofs.Common.{rules, sym, ◌∙◌, length}
use Rattle.bits.specs.BasicsLaws.{or_next}
use Rattle.bits.specs.CallsLaws.{start_passes, met_first, met_behind, answer_met, answer_given}
use Rattle.code_tables.specs.Calls.{code_at}
use Rattle.code_tables.specs.CallsLaws.{table_passes}
use Rattle.code_tables.proofs.svq1_vlc.read_code.Goals as goal

pub returns-in_err-check_table : goal.returns-in_err-check_table
unfolding code_at
returns-in_err-check_table c = search (rules, answer_met, met_first, c.in_err-check_table.ensures)

pub returns-in_err-check_start : goal.returns-in_err-check_start
unfolding code_at
returns-in_err-check_start c = search (rules, answer_met, met_behind, c.in_ok-check_table.ensures, c.in_err-check_start.ensures)

pub read_code-requires : goal.read_code-requires
read_code-requires c =
    (start_passes (length c.args.s.now) c.args.at (sym c.in_ok-check_start.ensures), (table_passes c.args.table.now (sym c.in_ok-check_table.ensures)).0)

pub returns : goal.returns
unfolding code_at
returns c =
    c.read_code.ensures ∙ sym (answer_given _ _ (or_next _ _ (sym c.in_ok-check_table.ensures) ∙ sym c.in_ok-check_start.ensures))
