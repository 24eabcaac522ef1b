-- `saturate_u8` meets its contract: the two tests tell which case of the definition it is. Assumes nothing.
use mir.ValLaws.{to_z-of_z}
use mir.Syntax.{w16}
use Rattle.codebook.specs.MeanLaws.{saturate-below}
use Rattle.codebook.proofs.svq1_mean.saturate_u8.Goals as goal

pub returns-then-value-lt0 : goal.returns-then-value-lt0
returns-then-value-lt0 c =
    let v = c.args.value in
    let e = to_z-of_z w16 v c.ranges.value in
    saturate-below v (simp e at c.if-value-lt0.true)
