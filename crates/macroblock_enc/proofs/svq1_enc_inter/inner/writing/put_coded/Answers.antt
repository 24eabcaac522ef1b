-- The tree behind the vectors. Assumes nothing.
use native.Mathlib.Omega.{arith}
use Rattle.bits.specs.BitNeedsLaws.{wrote_more}
use Rattle.mv_cache.specs.CacheNeeds.{near_from}
use Rattle.tree.specs.NodeForms.{tree_of}
use Rattle.macroblock.specs.MotionForms.{motion_of}
use Rattle.macroblock_enc.specs.WrittenNeedsLaws.{motion_fits, tree_room}
use Rattle.macroblock_enc.proofs.svq1_enc_inter.inner.writing.put_coded.Goals as goal

pub put_motion-p-requires : goal.put_motion-p-requires
put_motion-p-requires c =
    let s = c in
    let a = s.args in
    (s.requires.0.passes, s.requires.0.codable, s.requires.1, motion_fits a.book.now (near_from a.near) (motion_of a.motion a.vectors) (tree_of a.blocks) _ _ s.requires.0)

pub emit-requires : goal.emit-requires
emit-requires c =
    let s = c in
    let a = s.args in
    let w = c.put_motion-p in
    tree_room a.book.now (near_from a.near) (motion_of a.motion a.vectors) (tree_of a.blocks) _ a.out.now _ a.at _ _ s.requires.0 (c.half_of-half.ensures a.vectors) w.ensures w.auto.out

pub returns : goal.returns
returns c =
    let s = c in
    let a = s.args in
    let e = c.half_of-half.ensures a.vectors in
    let room = s.requires.0.room.bits_fit in
    wrote_more (omega arith) c.put_motion-p.ensures (rw e at c.emit.ensures)
