-- `refusal::check_table` meets its contract. 5, 6 and 7, one behind the other.
use Rattle.std.proofs.Common.{◌/◌, ◌%◌, ◌≤◌, ◌≡◌, ◌∙◌, refl, sym, arith, length}
use Rattle.code_tables.specs.Calls.{table_bytes, table_refusal}
use Rattle.code_tables.specs.CallsLaws.{one_passes}
use Rattle.code_tables.proofs.refusal.check_table.Goals as goal
use Rattle.code_tables.proofs.refusal.check_table.Goals.{Else-not-table_size}

-- a table of a known size has whole entries, 512 of them at most
whole : (c : Else-not-table_size) →
    let t = c.args.table.now in
    (length t % 3 ≡ 0) × (length t / 3 ≤ 512)
whole c =
    one_passes (λ n. (n % 3 ≡ 0) × (n / 3 ≤ 512)) table_bytes (length c.args.table.now)
    (sym c.table_size.ensures ∙ c.if-not-table_size.false)
    ((refl, omega arith), ((refl, omega arith), ((refl, omega arith), ((refl, omega arith), ((refl, omega arith), tt)))))

pub returns-then-not-table_size : goal.returns-then-not-table_size
unfolding table_refusal
returns-then-not-table_size c = sym (rw (← c.table_size.ensures, c.if-not-table_size.true))

pub good_table-requires : goal.good_table-requires
good_table-requires c = (whole c).0

pub returns-then-not-good_table : goal.returns-then-not-good_table
unfolding table_refusal
returns-then-not-good_table c =
    sym (rw (← c.table_size.ensures, c.if-not-table_size.false, ← c.good_table.ensures, c.if-not-good_table.true))

pub prefix_free-requires : goal.prefix_free-requires
prefix_free-requires c =
    (sym c.good_table.ensures ∙ c.if-not-good_table.false, (whole (goal.at.prefix_free-requires c).Else-not-table_size).1)

pub returns-then-not-prefix_free : goal.returns-then-not-prefix_free
unfolding table_refusal
returns-then-not-prefix_free c =
    sym (rw (← c.table_size.ensures, c.if-not-table_size.false, ← c.good_table.ensures, c.if-not-good_table.false, ← c.prefix_free.ensures, c.if-not-prefix_free.true))

pub returns : goal.returns
unfolding table_refusal
returns c =
    sym (rw (← c.table_size.ensures, c.if-not-table_size.false, ← c.good_table.ensures, c.if-not-good_table.false, ← c.prefix_free.ensures, c.if-not-prefix_free.false))
