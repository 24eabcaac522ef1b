-- `inner::prefix_free` meets its contract. No two codes clash where no two of their ranges meet.
use mathlib.Core.Path.{sym}
use Rattle.code_tables.specs.RangeFormsLaws.{ranges_free}
use Rattle.code_tables.proofs.inner.prefix_free.Goals as goal

pub returns : goal.returns
returns c =
    let h = c in
    let l = h in
    let s = l in
    sym (rw (← ranges_free s.args.table.now s.requires.0, ← l.range_ends.ensures, ← h.range_ends-2.ensures) (sym c.ranges_apart.ensures))
