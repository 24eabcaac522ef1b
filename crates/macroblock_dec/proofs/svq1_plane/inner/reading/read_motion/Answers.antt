-- One case for each mode. Assumes nothing.
use native.Mathlib.Omega.{arith}
use borrow.Author.Rules.{rules}
use Rattle.mv_cache.specs.CacheNeeds.{near_from}
use Rattle.macroblock_dec.specs.FindingNeedsLaws.{one_refused, one_found_lem, fours_refused, fours_found, none_found_lem}
use Rattle.macroblock_dec.proofs.svq1_plane.inner.reading.read_motion.Goals as goal

pub returns-in_err-one-in-Inter : goal.returns-in_err-one-in-Inter
returns-in_err-one-in-Inter c =
    let a = c.args in
    let e = one_refused a.s.now a.book.now (near_from a.near) a.at a.mode _ c.in-Inter.is (rw c.predict_one.ensures at c.in_err-one-in-Inter.ensures.0) in
    search (rules, e)

pub returns-in_ok-one-in-Inter : goal.returns-in_ok-one-in-Inter
returns-in_ok-one-in-Inter c =
    let a = c.args in
    let v = c.in_ok-one-in-Inter.ensures in
    one_found_lem a.s.now a.book.now (near_from a.near) a.at a.mode _ _ _ c.in-Inter.is (rw c.predict_one.ensures at v.0.0) v.0.1 v.1

pub returns-in_err-four-in-Inter4Mv : goal.returns-in_err-four-in-Inter4Mv
returns-in_err-four-in-Inter4Mv c =
    let a = c.args in
    let e = fours_refused a.s.now a.book.now (near_from a.near) a.at a.mode _ c.in-Inter4Mv.is c.in_err-four-in-Inter4Mv.ensures in
    search (rules, e)

pub returns-in_ok-four-in-Inter4Mv : goal.returns-in_ok-four-in-Inter4Mv
returns-in_ok-four-in-Inter4Mv c =
    let a = c.args in
    fours_found a.s.now a.book.now (near_from a.near) a.at a.mode _ c.in-Inter4Mv.is c.in_ok-four-in-Inter4Mv.ensures

pub returns-in-Intra : goal.returns-in-Intra
returns-in-Intra c =
    let a = c.args in
    none_found_lem a.s.now a.book.now (near_from a.near) a.at a.mode (omega (arith, c.requires.from.bits_fit)) c.in-Intra.is _ c.no_motion.ensures
