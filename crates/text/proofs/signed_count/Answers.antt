-- `text::signed_count` meets its contract: the digits of the size, and one byte more for the minus of a number below 0. Assumes nothing.
use mathlib.Core.Path.{◌≡◌, ap, ◌∙◌}
use native.Mathlib.Omega.{arith}
use lib.IntN.{nat_abs}
use lib.ListN.{length}
use mir.Syntax.{w64}
use mir.ValLaws.{to_z-of_z}
use Rattle.text.specs.Text.{decimal}
use Rattle.text.specs.SignedFormsLaws.{signed_above, signed_below}
use Rattle.text.proofs.signed_count.Goals as goal
use Rattle.text.proofs.signed_count.Goals.{After-digit_count-digits}

-- the digits counted are those of the size
digits : (c : After-digit_count-digits) → c.digit_count-digits.result ≡ length (decimal (nat_abs c.args.z))
digits c =
    let e : c.unsigned_abs.result ≡ nat_abs c.args.z = c.unsigned_abs.ensures.value ∙ ap nat_abs (to_z-of_z w64 c.args.z c.ranges.z) in
    rw e at c.digit_count-digits.ensures.count

pub returns-then-z-ge0 : goal.returns-then-z-ge0
returns-then-z-ge0 c =
    let e = signed_above c.args.z (simp (to_z-of_z w64 c.args.z c.ranges.z) at c.if-z-ge0.true) in
    record { count = rw e (digits (goal.at.returns-then-z-ge0 c).After-digit_count-digits); most = omega (arith, c.digit_count-digits.ensures.most) }

pub returns : goal.returns
returns c =
    let e = signed_below c.args.z (simp (to_z-of_z w64 c.args.z c.ranges.z) at c.if-z-ge0.false) in
    record { count = rw e (omega (arith, digits (goal.at.returns c).After-digit_count-digits)); most = omega (arith, c.digit_count-digits.ensures.most) }
