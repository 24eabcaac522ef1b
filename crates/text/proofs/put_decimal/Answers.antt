-- `text::put_decimal` meets its contract: the digits left before what is written make the number. Assumes nothing.
use Prim.Native.Nat.{ℕ, ◌+◌, ◌%◌, ◌≤◌}
use mathlib.Core.Path.{sym, ◌∙◌}
use native.Mathlib.Omega.{arith}
use lib.ListN.{length, length-set}
use Rattle.text.specs.Text.{decimal}
use Rattle.text.specs.PutLaws.{digits_turn, digits_kept, digits_end}
use Rattle.text.proofs.put_decimal.Goals as goal

pub loop-i-preserved : goal.loop-i-preserved
loop-i-preserved c =
    let a = c.args in
    let i : ℕ = c.loop-i.i in
    let fits : c.digit_count-k.result + a.at ≤ length c.loop-i.out = omega arith in (
      omega arith,
      omega arith,
      simp length-set c.loop-i.invariant.2,
      digits_kept i (48 + c.loop-i.m % 10) c.loop-i.out a.out.now (omega arith) c.loop-i.invariant.3,
      sym (digits_turn a.at i c.loop-i.m c.loop-i.out (omega arith) (omega arith)) ∙ c.loop-i.invariant.4,
    )

pub returns : goal.returns
returns c =
    let a = c.args in
    let k = c.digit_count-k.ensures.count in
    let room : a.at + length (decimal a.n) ≤ length a.out.now = omega (arith, k) in
    rw k (digits_end a.out.now a.at a.n c.loop-i.i c.loop-i.m c.loop-i.out room (omega arith) c.loop-i.invariant.3 (rw k at c.loop-i.invariant.4))
