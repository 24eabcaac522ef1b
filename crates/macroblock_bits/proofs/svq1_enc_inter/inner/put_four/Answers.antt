-- Two pairs of differences, one behind the other. Assumes nothing.
use native.Mathlib.Omega.{arith}
use Rattle.macroblock.specs.MacroblockNeeds.{by_book}
use Rattle.macroblock_bits.specs.CodingNeedsLaws.{four_inside, four_first, four_second, four_wrote}
use Rattle.mv_cache.specs.CacheNeeds.{near_from}
use Rattle.macroblock_bits.proofs.svq1_enc_inter.inner.put_four.Goals as goal

pub put_pair-k-requires : goal.put_pair-k-requires
put_pair-k-requires c =
    let s = c in
    let a = s.args in
    let e = c.four_differences-diffs.ensures in
    let i = four_inside (by_book a.book.now) (near_from a.near) a.a a.b a.c a.d _ e s.requires.1 in
    (s.requires.0, i.0, i.1, four_first (by_book a.book.now) (near_from a.near) a.a a.b a.c a.d _ e s.requires.2)

pub put_pair-requires : goal.put_pair-requires
put_pair-requires c =
    let s = c in
    let a = s.args in
    let e = c.four_differences-diffs.ensures in
    let i = four_inside (by_book a.book.now) (near_from a.near) a.a a.b a.c a.d _ e s.requires.1 in
    let w = c.put_pair-k in
    (s.requires.0, i.2, i.3, four_second (by_book a.book.now) (near_from a.near) a.a a.b a.c a.d _ e s.requires.2 w.ensures w.auto.out)

pub returns : goal.returns
returns c =
    let s = c in
    let a = s.args in
    let e = c.four_differences-diffs.ensures in
    let room = s.requires.2.bits_fit in
    four_wrote (by_book a.book.now) (near_from a.near) a.a a.b a.c a.d _ e (omega arith) c.put_pair-k.ensures c.put_pair.ensures
