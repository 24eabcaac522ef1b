-- The five fields, one behind the other.
use native.Mathlib.Omega.{arith}
use Rattle.listing_text.specs.LineFormsLaws.{put_line_lem}
use Rattle.listing_text.proofs.inner.lines.put_macroblock_line.Goals as goal

pub returns : goal.returns
returns c =
    let a = c.args in
    put_line_lem a.text.now a.at a.row a.column a.mode a.bits a.error _ _ _ _ _ _ _ _ _ _ (omega arith) c.put_number-a.ensures c.put_number-b.ensures c.put_mode-c.ensures c.put_number-d.ensures c.put_number.ensures
