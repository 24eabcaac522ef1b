-- `text::put_text` meets its contract: the bytes passed are put at the place. Assumes nothing.
use native.Mathlib.Omega.{arith}
use Rattle.text.specs.PutLaws.{put_end}
use Rattle.text.proofs.put_text.Goals as goal

pub returns : goal.returns
returns c =
    let a = c.args in
    put_end a.out.now a.at a.t.now (omega arith) _ c.put_row.ensures
