-- A leaf, by its code. Assumes nothing.
use Rattle.leaf.specs.LentNeedsLaws.{skip_entry, skip_size, skip_wrote}
use Rattle.leaf.proofs.svq1_enc_leaf.inner.put_leaf.Goals as goal

pub put_code-requires : goal.put_code-requires
put_code-requires c =
    let s = c in
    let a = s.args in
    let t = s.requires.tables in
    let room = rw c.in-Skip.is at s.requires.room in
    (skip_entry a.half a.stage.now a.means.now a.stages t, rw (skip_size a.half a.stage.now a.means.now a.stages t) at room)

pub returns-in-Skip : goal.returns-in-Skip
returns-in-Skip c =
    let s = c in
    let a = s.args in
    rw c.in-Skip.is
    (skip_wrote a.half a.stage.now a.means.now a.stages s.requires.tables a.out.now _ a.at _ c.put_code.ensures)
