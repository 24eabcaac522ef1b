-- A motion by its case. Assumes nothing.
use mathlib.Core.Path.{ap}
use Rattle.mv_cache.specs.CacheNeeds.{near_from}
use Rattle.bits.specs.BitNeedsLaws.{wrote_none}
use Rattle.tree.specs.WalkNeedsLaws.{wrote_as}
use Rattle.macroblock.specs.declared.svq1_enc_inter.MbMotion.{MbMotion}
use Rattle.macroblock.specs.MotionForms.{motion_of}
use Rattle.macroblock.specs.MacroblockNeeds.{by_book}
use Rattle.macroblock_bits.specs.CodingNeedsLaws.{one_inside, one_bits, still_bits, four_codable, fits_as}
use Rattle.macroblock.specs.Macroblock.{motion_bits}
use Rattle.macroblock_bits.proofs.svq1_enc_inter.inner.put_motion.Goals as goal

pub push_mv_differential-requires : goal.push_mv_differential-requires
push_mv_differential-requires c =
    let s = c in
    let a = s.args in
    (s.requires.0, one_inside (by_book a.book.now) (near_from a.near) a.motion a.vectors _ _ c.in-One.is s.requires.2 s.requires.1, fits_as _ _ (one_bits (by_book a.book.now) (near_from a.near) a.motion a.vectors _ _ c.in-One.is s.requires.2) s.requires.3)

pub put_four-requires : goal.put_four-requires
put_four-requires c =
    let s = c in
    let a = s.args in
    let e = ap (λ (x : MbMotion). motion_of x a.vectors) c.in-Four.is in
    let g = by_book a.book.now in
    let n = near_from a.near in
    let m = motion_of a.motion a.vectors in
    (s.requires.0, four_codable g n m _ _ _ _ e s.requires.1, fits_as _ (motion_bits g n m) (ap (motion_bits g n) e) s.requires.3)

pub returns-in-None : goal.returns-in-None
returns-in-None c =
    let a = c.args in
    let e = ap (λ (x : MbMotion). motion_of x a.vectors) c.in-None.is in
    wrote_as _ _ (still_bits (by_book a.book.now) (near_from a.near) (motion_of a.motion a.vectors) e) (wrote_none _ _)

pub returns-in-One : goal.returns-in-One
returns-in-One c =
    let s = c in
    let a = s.args in
    wrote_as _ _ (one_bits (by_book a.book.now) (near_from a.near) a.motion a.vectors _ _ c.in-One.is s.requires.2) c.push_mv_differential.ensures

pub returns-in-Four : goal.returns-in-Four
returns-in-Four c =
    let a = c.args in
    let e = ap (λ (x : MbMotion). motion_of x a.vectors) c.in-Four.is in
    wrote_as _ _ (ap (motion_bits (by_book a.book.now) (near_from a.near)) e) c.put_four.ensures
