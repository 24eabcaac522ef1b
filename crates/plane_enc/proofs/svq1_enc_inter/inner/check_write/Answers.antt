-- The plane and its source, then what is lent. Assumes nothing.
use Rattle.std.proofs.Common.{rules, sym}
use Rattle.macroblock.specs.MacroblockNeeds.{given_by}
use Rattle.plane.specs.RefusalsLaws.{source_padded}
use Rattle.plane_enc.specs.WriterNeedsLaws.{by_source, by_lent}
use Rattle.plane_enc.proofs.svq1_enc_inter.inner.check_write.Goals as goal

pub returns-in_err-check_source : goal.returns-in_err-check_source
returns-in_err-check_source c =
    let a = c.args in
    search (rules, by_source (given_by a.canvas a.reference.now a.book.now a.codebook.now) a.source a.bytes a.start a.slices, c.in_err-check_source.ensures)

pub check_lent-requires : goal.check_lent-requires
check_lent-requires c =
    let a = c.args in
    source_padded a.canvas a.reference.now a.source (sym c.in_ok-check_source.ensures)

pub returns : goal.returns
returns c =
    let a = c.args in
    by_lent (given_by a.canvas a.reference.now a.book.now a.codebook.now) a.source a.bytes a.start a.slices _ (sym c.in_ok-check_source.ensures) (c.check_lent.ensures a.reference.now)
