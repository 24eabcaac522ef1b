-- The number's digits and the byte behind them.
use mathlib.Core.List.{[], ◌∷◌, ◌++◌}
use native.Mathlib.Omega.{arith}
use lib.ListN.{length-append}
use Rattle.text.specs.Text.{decimal}
use Rattle.text.specs.LengthLaws.{decimal_most}
use Rattle.listing_text.specs.LineFormsLaws.{put_room}
use Rattle.listing_text.proofs.inner.lines.put_number.Goals as goal

pub returns : goal.returns
returns c =
    let p = c.put_field in
    let a = c.args in
    let t = decimal a.n ++ (a.behind ∷ []) in
    put_room 21 _ _ t _ _ p.ensures (omega (arith, decimal_most a.n, length-append (decimal a.n) (a.behind ∷ []))) (omega arith)
