-- A motion by its case. Assumes nothing.
use mathlib.Core.Path.{ap}
use native.Mathlib.Omega.{arith}
use Rattle.mv_cache.specs.CacheNeeds.{near_from}
use Rattle.macroblock.specs.declared.svq1_enc_inter.MbMotion.{MbMotion}
use Rattle.macroblock.specs.MotionForms.{motion_of}
use Rattle.macroblock.specs.MacroblockNeeds.{by_book}
use Rattle.macroblock_bits.specs.CodingNeedsLaws.{one_inside, one_bits, still_bits, four_codable, counted_none, counted_less, counted_as}
use Rattle.macroblock.specs.Macroblock.{motion_bits}
use Rattle.macroblock_bits.proofs.svq1_enc_inter.inner.motion_bits.Goals as goal

pub vector_bits-requires : goal.vector_bits-requires
vector_bits-requires c =
    let s = c in
    let a = s.args in
    (s.requires.0, one_inside (by_book a.book.now) (near_from a.near) a.motion a.vectors _ _ c.in-One.is s.requires.2 s.requires.1)

pub four_bits-requires : goal.four_bits-requires
four_bits-requires c =
    let s = c in
    let a = s.args in
    let e = ap (λ (x : MbMotion). motion_of x a.vectors) c.in-Four.is in
    (s.requires.0, four_codable (by_book a.book.now) (near_from a.near) (motion_of a.motion a.vectors) _ _ _ _ e s.requires.1)

pub returns-in-None : goal.returns-in-None
returns-in-None c =
    let a = c.args in
    let e = ap (λ (x : MbMotion). motion_of x a.vectors) c.in-None.is in
    counted_none _ (still_bits (by_book a.book.now) (near_from a.near) (motion_of a.motion a.vectors) e)

pub returns-in-One : goal.returns-in-One
returns-in-One c =
    let s = c in
    let a = s.args in
    counted_less _ _ 64 256 _ (one_bits (by_book a.book.now) (near_from a.near) a.motion a.vectors _ _ c.in-One.is s.requires.2) (omega arith) c.vector_bits.ensures

pub returns-in-Four : goal.returns-in-Four
returns-in-Four c =
    let a = c.args in
    let e = ap (λ (x : MbMotion). motion_of x a.vectors) c.in-Four.is in
    counted_as _ _ _ _ (ap (motion_bits (by_book a.book.now) (near_from a.near)) e) c.four_bits.ensures
