-- Each vector behind the one before it; the first refusal ends the reading. Assumes nothing.
use mathlib.Core.Path.{refl}
use Rattle.mv_cache.specs.CacheNeeds.{near_from}
use borrow.Author.Rules.{rules}
use Rattle.macroblock_dec.specs.FindingNeedsLaws.{first_refused, second_refused, third_refused, fourth_refused, four_found_lem}
use Rattle.macroblock_dec.proofs.svq1_plane.inner.reading.read_four.Goals as goal

pub returns-in_err-first : goal.returns-in_err-first
returns-in_err-first c =
    let a = c.args in
    let e = first_refused a.s.now a.book.now (near_from a.near) a.at _ (rw c.predict_first.ensures at c.in_err-first.ensures.0) in
    search (rules, e)

pub returns-in_err-second : goal.returns-in_err-second
returns-in_err-second c =
    let a = c.args in
    let one = rw c.predict_first.ensures at c.in_ok-first.ensures.0.0 in
    let e = second_refused a.s.now a.book.now (near_from a.near) a.at _ _ one _ (rw c.predict_second.ensures at c.in_err-second.ensures.0) in
    search (rules, e)

pub returns-in_err-third : goal.returns-in_err-third
returns-in_err-third c =
    let a = c.args in
    let one = rw c.predict_first.ensures at c.in_ok-first.ensures.0.0 in
    let two = rw c.predict_second.ensures at c.in_ok-second.ensures.0.0 in
    let e = third_refused a.s.now a.book.now (near_from a.near) a.at _ _ one _ _ two _ (rw c.predict_third.ensures at c.in_err-third.ensures.0) in
    search (rules, e)

pub returns-in_err-fourth : goal.returns-in_err-fourth
returns-in_err-fourth c =
    let a = c.args in
    let one = rw c.predict_first.ensures at c.in_ok-first.ensures.0.0 in
    let two = rw c.predict_second.ensures at c.in_ok-second.ensures.0.0 in
    let three = rw c.predict_third.ensures at c.in_ok-third.ensures.0.0 in
    let e = fourth_refused a.s.now a.book.now (near_from a.near) a.at _ _ one _ _ two _ _ three _ (rw c.predict_fourth.ensures at c.in_err-fourth.ensures.0) in
    search (rules, e)

pub returns : goal.returns
returns c =
    let a = c.args in
    let one = rw c.predict_first.ensures at c.in_ok-first.ensures.0.0 in
    let two = rw c.predict_second.ensures at c.in_ok-second.ensures.0.0 in
    let three = rw c.predict_third.ensures at c.in_ok-third.ensures.0.0 in
    let last = rw c.predict_fourth.ensures at c.in_ok-fourth.ensures.0.0 in
    record {
      found = four_found_lem a.s.now a.book.now (near_from a.near) a.at _ _ one _ _ two _ _ three _ _ last;
      inside = (c.in_ok-first.ensures.0.1, (c.in_ok-second.ensures.0.1, (c.in_ok-third.ensures.0.1, (c.in_ok-fourth.ensures.0.1, tt))));
      count = refl;
    }
