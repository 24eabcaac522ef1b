-- One search, at the macroblock's corner and by its predictor. Assumes nothing.
use Rattle.std.proofs.Common.{◌≡◌, ◌∙◌}
use Rattle.std.specs.Prelude.{Some, None}
use Rattle.motion.specs.Search.{searched}
use Rattle.mv_cache.specs.Neighbours.{for_one}
use Rattle.mv_cache.specs.CacheNeeds.{near_from}
use Rattle.mv_cache.specs.NeighboursLaws.{for_one_in}
use Rattle.macroblock_search.specs.SearchNeeds.{whole_by}
use Rattle.macroblock_search.specs.SearchNeedsLaws.{whole_passes, found_codes, moves_single, moves_none}
use Rattle.macroblock_search.proofs.svq1_enc_inter.inner.motions.single_motion.Goals as goal

pub find_vector-requires : goal.find_vector-requires
find_vector-requires c =
    let a = c.args in
    let z = c.corner_of-at.ensures in
    whole_passes a.canvas a.reference.now a.target.now a.k c.requires.0 _ _ _ _ z.0 z.1 (rw c.predict_one-p.ensures (for_one_in (near_from a.near) c.requires.1))

pub returns-in_err-mv : goal.returns-in_err-mv
returns-in_err-mv c =
    let a = c.args in
    let z = c.corner_of-at.ensures in
    let e : None ≡ searched (whole_by a.canvas a.reference.now a.target.now a.k (for_one (near_from a.near)) a.radius) = c.in_err-mv.ensures ∙ rw (c.predict_one-p.ensures, z.0, z.1) in
    rw c.from_residual.ensures (moves_none a.canvas a.reference.now a.target.now a.radius a.k (near_from a.near) e)

pub difference_of-diff-requires : goal.difference_of-diff-requires
difference_of-diff-requires c = found_codes _ _ c.in_ok-mv.ensures

pub returns : goal.returns
returns c =
    let a = c.args in
    let z = c.corner_of-at.ensures in
    let e : Some c.in_ok-mv.mv ≡ searched (whole_by a.canvas a.reference.now a.target.now a.k (for_one (near_from a.near)) a.radius) = c.in_ok-mv.ensures ∙ rw (c.predict_one-p.ensures, z.0, z.1) in
    rw (← c.predict_one-p.ensures, ← c.difference_of-diff.ensures) at (moves_single a.canvas a.reference.now a.target.now a.radius a.k (near_from a.near) _ e)
