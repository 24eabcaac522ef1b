-- A run of the source put into the slice. Assumes nothing.
use Rattle.std.proofs.Common.{◌∙◌}
use Rattle.mv_cache.specs.PutLaws.{row_part}
use Rattle.mv_cache.proofs.svq1_mv_cache.inner.copy_row.Goals as goal

pub returns : goal.returns
returns c =
    let a = c.args in
    c.put_row.ensures ∙ row_part a.o a.p a.n a.source.now a.out.now c.requires.1
