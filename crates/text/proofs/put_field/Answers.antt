-- `text::put_field` meets its contract: where there is room for the digits and one byte more, the byte is put behind them. Assumes nothing.
use Prim.Native.Nat.{◌+◌, ◌<◌}
use native.Mathlib.Omega.{arith}
use lib.ListN.{length}
use Rattle.text.specs.Text.{decimal}
use Rattle.text.specs.PutLaws.{put_byte}
use Rattle.text.proofs.put_field.Goals as goal

pub returns : goal.returns
returns c =
    let a = c.args in
    let room : a.at + length (decimal a.n) < length a.out.now = omega (arith, c.digit_count-size.ensures.count) in
    put_byte c.put_decimal-next.ensures room _
