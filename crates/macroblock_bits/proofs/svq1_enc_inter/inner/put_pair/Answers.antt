-- One behind the other. Assumes nothing.
use native.Mathlib.Omega.{arith}
use Rattle.bits.specs.BitNeedsLaws.{wrote_more}
use Rattle.macroblock.specs.Macroblock.{difference_bits}
use Rattle.macroblock.specs.MacroblockNeeds.{by_book}
use Rattle.macroblock_bits.specs.CodingNeedsLaws.{first_fits, second_fits}
use Rattle.macroblock_bits.proofs.svq1_enc_inter.inner.put_pair.Goals as goal

pub push_mv_differential-k-requires : goal.push_mv_differential-k-requires
push_mv_differential-k-requires c =
    let s = c in
    let a = s.args in
    let g = by_book a.book.now in
    (s.requires.0, s.requires.1, first_fits (difference_bits g a.a) (difference_bits g a.b) s.requires.3)

pub push_mv_differential-requires : goal.push_mv_differential-requires
push_mv_differential-requires c =
    let s = c in
    let a = s.args in
    let g = by_book a.book.now in
    let w = c.push_mv_differential-k in
    (s.requires.0, s.requires.2, second_fits (difference_bits g a.a) (difference_bits g a.b) s.requires.3 w.ensures w.auto.out)

pub returns : goal.returns
returns c =
    let room = c.requires.3.bits_fit in
    wrote_more (omega arith) c.push_mv_differential-k.ensures c.push_mv_differential.ensures
