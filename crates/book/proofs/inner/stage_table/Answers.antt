-- The level's part of the family that the half names.
use Rattle.std.proofs.Common.{◌∙◌}
use Rattle.book.specs.Level.{level_number}
use Rattle.book.specs.LevelLaws.{lent_stage}
use Rattle.book.proofs.inner.stage_table.Goals as goal

pub returns : goal.returns
returns c =
    (rw (c.stage_family-intra.ensures, c.stage_family-inter.ensures) at c.stage_table.ensures)
    ∙ lent_stage c.args.book.now c.requires c.args.half (level_number c.args.level)
