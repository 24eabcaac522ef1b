-- `Svq1Level::family_part` meets its contract. The part from byte 24 × level on.
use Rattle.std.proofs.Common.{arith}
use Rattle.book.specs.LevelLaws.{family_part_is}
use Rattle.book.proofs.svq1_blocktree.Svq1Level.family_part.Goals as goal

pub returns : goal.returns
returns c =
    let n = c.number-from in
    rw (← n.ensures.0) (family_part_is n.result _ (omega arith))
