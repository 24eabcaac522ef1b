-- Two pairs of differences. Assumes nothing.
use Rattle.macroblock.specs.MacroblockNeeds.{by_book}
use Rattle.macroblock_bits.specs.CodingNeedsLaws.{four_inside, four_counted}
use Rattle.mv_cache.specs.CacheNeeds.{near_from}
use Rattle.macroblock_bits.proofs.svq1_enc_inter.inner.four_bits.Goals as goal

pub pair_bits-x-requires : goal.pair_bits-x-requires
pair_bits-x-requires c =
    let s = c in
    let a = s.args in
    let e = c.four_differences-diffs.ensures in
    let i = four_inside (by_book a.book.now) (near_from a.near) a.a a.b a.c a.d _ e s.requires.1 in
    (s.requires.0, i.0, i.1)

pub pair_bits-y-requires : goal.pair_bits-y-requires
pair_bits-y-requires c =
    let s = c in
    let a = s.args in
    let e = c.four_differences-diffs.ensures in
    let i = four_inside (by_book a.book.now) (near_from a.near) a.a a.b a.c a.d _ e s.requires.1 in
    (s.requires.0, i.2, i.3)

pub returns : goal.returns
returns c =
    let s = c in
    let a = s.args in
    let e = c.four_differences-diffs.ensures in
    four_counted (by_book a.book.now) (near_from a.near) a.a a.b a.c a.d _ e _ _ c.pair_bits-x.ensures c.pair_bits-y.ensures
