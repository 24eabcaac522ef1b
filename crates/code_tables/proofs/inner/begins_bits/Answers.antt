-- `inner::begins_bits` meets its contract. A shift drops what the longer number has more; a longer run begins no shorter one.
use mathlib.Core.Path.{sym}
use Rattle.bits.specs.Bits.{msb}
use Rattle.bits.specs.BitsLaws.{length_msb}
use Rattle.code_tables.specs.CodesLaws.{begins-msb, begins_long}
use Rattle.code_tables.proofs.inner.begins_bits.Goals as goal

pub returns-then-a-b : goal.returns-then-a-b
returns-then-a-b c =
    let a = c.args in
    let h = c.requires in
    sym (begins-msb a.a a.b a.x a.y c.if-a-b.true h.2 h.3)

pub returns-else-a-b : goal.returns-else-a-b
returns-else-a-b c =
    let a = c.args in
    sym (begins_long (msb a.a a.x) (msb a.b a.y) (simp length_msb c.if-a-b.false))
