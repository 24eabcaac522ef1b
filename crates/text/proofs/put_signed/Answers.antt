-- `text::put_signed` meets its contract: a number that is not below 0 is its digits, and any other a minus and its digits behind it. Assumes nothing.
use Prim.Native.Nat.{suc, ◌+◌, ◌≤◌}
use mathlib.Core.Path.{◌≡◌, ap, ◌∙◌}
use mathlib.Core.List.{◌∷◌}
use native.Mathlib.Omega.{arith}
use lib.IntN.{nat_abs}
use lib.ListN.{length}
use mir.Syntax.{w64}
use mir.ValLaws.{to_z-of_z}
use Rattle.text.specs.Text.{minus, decimal, signed_decimal}
use Rattle.text.specs.PutLaws.{byte_before}
use Rattle.text.specs.SignedFormsLaws.{signed_above, signed_below}
use Rattle.text.proofs.put_signed.Goals as goal
use Rattle.text.proofs.put_signed.Goals.{After-signed_count-bytes, Else-out-at-2}

-- the bytes counted are those of the number
counted : (c : After-signed_count-bytes) → c.signed_count-bytes.result ≡ length (signed_decimal c.args.z)
counted c = let s = c in rw (to_z-of_z w64 s.args.z s.ranges.z) at c.signed_count-bytes.ensures.count

-- the number is below 0, and there is room for the minus and the digits
below : (c : Else-out-at-2) → let a = c.args in signed_decimal a.z ≡ minus ∷ decimal (nat_abs a.z)
below c =
    signed_below c.args.z (simp (to_z-of_z w64 c.args.z c.ranges.z) at c.if-z-ge0.false)

room : (c : Else-out-at-2) → let a = c.args in c.signed_count-bytes.result ≡ length (signed_decimal a.z) → a.at + suc (length (decimal (nat_abs a.z))) ≤ length a.out.now
room c e = omega (arith, rw (below c) at e)

pub returns-then-z-ge0 : goal.returns-then-z-ge0
returns-then-z-ge0 c =
    let e = to_z-of_z w64 c.args.z c.ranges.z in
    let size : c.unsigned_abs.result ≡ nat_abs c.args.z = c.unsigned_abs.ensures.value ∙ ap nat_abs e in
    rw (signed_above c.args.z (simp e at c.if-z-ge0.true)) (rw size at c.put_decimal.ensures)

pub bounds-out-at : goal.bounds-out-at
bounds-out-at c =
    let s = goal.at.bounds-out-at c in
    omega (arith, room s.Else-out-at-2 (counted s.After-signed_count-bytes))

pub returns : goal.returns
returns c =
    let s = goal.at.returns c in
    let size : c.unsigned_abs-2.result ≡ nat_abs c.args.z = c.unsigned_abs-2.ensures.value ∙ ap nat_abs (to_z-of_z w64 c.args.z c.ranges.z) in
    rw (below s.Else-out-at-2) (byte_before (room s.Else-out-at-2 (counted s.After-signed_count-bytes)) (rw size at c.put_decimal-2.ensures))
