-- The second search goes by what the first found. Assumes nothing.
use Rattle.std.proofs.Common.{◌∙◌, arith}
use Rattle.mv_cache.specs.CacheNeeds.{near_from}
use Rattle.mv_cache.specs.Neighbours.{for_first, for_second}
use Rattle.mv_cache.specs.NeighboursLaws.{for_first_in, for_second_in}
use Rattle.vectors.specs.declared.svq1_motion_predictor.Svq1Mv.{Svq1Mv}
use Rattle.vectors.specs.VectorsLaws.{codable_inside}
use Rattle.motion.specs.Search.{Search}
use Rattle.macroblock_search.specs.SearchNeeds.{quarter_by}
use Rattle.macroblock_search.specs.SearchNeedsLaws.{found_codes, pair_none, pair_no_second, pair_both}
use Rattle.macroblock_search.proofs.svq1_enc_inter.inner.searches.first_pair.Goals as goal
use Rattle.macroblock_search.proofs.svq1_enc_inter.inner.searches.first_pair.Goals.{Start}

abbrev one : Start → Search
one c = let a = c.args in quarter_by a.canvas a.reference.now a.target.now a.k 0 (for_first (near_from a.near)) a.radius

abbrev two : Start → Svq1Mv → Search
two c v = let a = c.args in quarter_by a.canvas a.reference.now a.target.now a.k 1 (for_second (near_from a.near) v) a.radius

pub find_quarter-requires : goal.find_quarter-requires
find_quarter-requires c =
    let a = c.args in
    (c.requires.0, omega arith, rw c.predict_first-p.ensures (for_first_in (near_from a.near) c.requires.1))

pub returns-in_err-first : goal.returns-in_err-first
returns-in_err-first c =
    let s = (goal.at.returns-in_err-first c).Start in
    c.from_residual.ensures ∙ pair_none (one s) (two s) (c.in_err-first.ensures ∙ rw c.predict_first-p.ensures)

pub find_quarter-requires-2 : goal.find_quarter-requires-2
find_quarter-requires-2 c =
    let a = c.args in
    (c.requires.0, omega arith, rw c.predict_second-q.ensures (for_second_in (near_from a.near) _ c.requires.1 (codable_inside _ _ (found_codes _ _ c.in_ok-first.ensures))))

pub returns-in_err-second : goal.returns-in_err-second
returns-in_err-second c =
    let s = (goal.at.returns-in_err-second c).Start in
    c.from_residual-in_err-second.ensures ∙ pair_no_second (one s) (two s) _ (c.in_ok-first.ensures ∙ rw c.predict_first-p.ensures) (c.in_err-second.ensures ∙ rw c.predict_second-q.ensures)

pub returns : goal.returns
returns c =
    let s = (goal.at.returns c).Start in
    pair_both (one s) (two s) _ _ (c.in_ok-first.ensures ∙ rw c.predict_first-p.ensures) (c.in_ok-second.ensures ∙ rw c.predict_second-q.ensures)
