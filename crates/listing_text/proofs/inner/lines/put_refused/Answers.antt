-- Two texts, one behind the other.
use native.Mathlib.Omega.{arith}
use Rattle.listing_text.specs.LineFormsLaws.{put_room, put_refusal}
use Rattle.listing_text.proofs.inner.lines.put_refused.Goals as goal

pub put_number-requires : goal.put_number-requires
put_number-requires c =
    let a = c.args in
    let p = c.put_text-a in
    let q = put_room 8 a.text.now 0 _ p.result p.new.out p.ensures (omega arith) (omega arith) in
    omega (arith, q.next, q.short)

pub returns : goal.returns
returns c =
    let a = c.args in
    rw (← c.number.ensures, ← c.from.ensures) (put_refusal a.text.now c.from.result _ _ _ _ (omega arith) c.put_text-a.ensures c.put_number.ensures)
