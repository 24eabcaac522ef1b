-- Three texts, one behind the other.
use native.Mathlib.Omega.{arith}
use Rattle.listing_text.specs.LineFormsLaws.{put_room, put_total}
use Rattle.listing_text.proofs.inner.lines.put_total_line.Goals as goal

pub put_number-b-requires : goal.put_number-b-requires
put_number-b-requires c =
    let a = c.args in
    let p = c.put_text-a in
    let q = put_room 6 a.text.now a.at _ p.result p.new.out p.ensures (omega arith) (omega arith) in
    omega (arith, q.next, q.short)

pub put_number-requires : goal.put_number-requires
put_number-requires c =
    let a = c.args in
    let p = c.put_text-a in
    let q = put_room 6 a.text.now a.at _ p.result p.new.out p.ensures (omega arith) (omega arith) in
    omega (arith, q.next, q.short)

pub returns : goal.returns
returns c =
    let a = c.args in
    put_total a.text.now a.at a.bits a.error _ _ _ _ _ _ (omega arith) c.put_text-a.ensures c.put_number-b.ensures c.put_number.ensures
