-- SKIP has its mode only. Assumes nothing.
use mathlib.Core.Path.{sym, ◌∙◌}
use native.Mathlib.Omega.{arith}
use Rattle.bits.specs.BitNeedsLaws.{wrote_more}
use Rattle.mv_cache.specs.CacheNeeds.{near_from}
use Rattle.tree.specs.WalkNeedsLaws.{wrote_as}
use Rattle.macroblock_enc.specs.WrittenNeedsLaws.{skip_bits_lem, coded_bits_lem, mode_fits, coded_room}
use Rattle.macroblock_enc.proofs.svq1_enc_inter.inner.writing.put_candidate.Goals as goal

pub put_mode-p-requires : goal.put_mode-p-requires
put_mode-p-requires c =
    let s = c in
    let a = s.args in
    (s.requires.passes, mode_fits a.c a.book.now (near_from a.near) _ _ s.requires)

pub returns-then-is_skip : goal.returns-then-is_skip
returns-then-is_skip c =
    let s = c in
    let a = s.args in
    let z = sym c.is_skip.ensures ∙ c.if-is_skip.true in
    wrote_as _ _ (skip_bits_lem a.c a.book.now (near_from a.near) s.requires.mode z) c.put_mode-p.ensures

pub put_coded-requires : goal.put_coded-requires
put_coded-requires c =
    let s = c in
    let a = s.args in
    let z = sym c.is_skip.ensures ∙ c.if-is_skip.false in
    let w = c.put_mode-p in
    (coded_room a.c a.book.now (near_from a.near) a.out.now _ a.at _ _ s.requires z w.ensures w.auto.out, s.requires.differs)

pub returns : goal.returns
returns c =
    let s = c in
    let a = s.args in
    let z = sym c.is_skip.ensures ∙ c.if-is_skip.false in
    let room = s.requires.room.bits_fit in
    wrote_as _ _ (coded_bits_lem a.c a.book.now (near_from a.near) s.requires.mode z) (wrote_more (omega arith) c.put_mode-p.ensures c.put_coded.ensures)
