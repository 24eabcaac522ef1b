-- What stands behind the mode. Assumes nothing.
use borrow.Author.Rules.{rules}
use Rattle.mv_cache.specs.CacheNeeds.{near_from}
use Rattle.macroblock_dec.specs.ReadNeedsLaws.{mode_refused, mode_found}
use Rattle.macroblock_dec.proofs.svq1_plane.inner.reading.read_choice.Goals as goal

pub returns-in_err-read : goal.returns-in_err-read
returns-in_err-read c =
    let a = c.args in
    let e = mode_refused a.s.now a.book.now (near_from a.near) a.at _ c.in_err-read.ensures in
    search (rules, e)

pub returns : goal.returns
returns c =
    let a = c.args in
    mode_found a.s.now a.book.now (near_from a.near) a.at _ _ c.in_ok-read.ensures _ c.read_behind.ensures
