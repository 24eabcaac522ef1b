-- Two pairs of searches, where the flag is set. Assumes nothing.
use Rattle.mv_cache.specs.CacheNeeds.{near_from}
use Rattle.vectors.specs.VectorsLaws.{codable_inside}
use Rattle.macroblock.specs.Choice.{four_tried}
use Rattle.macroblock_search.specs.SearchNeedsLaws.{pair_codes, moves_no_first, moves_no_second, moves_four, moves_flag}
use Rattle.macroblock_search.proofs.svq1_enc_inter.inner.motions.four_motion.Goals as goal

pub returns-in_err-p : goal.returns-in_err-p
returns-in_err-p c =
    let a = c.args in
    rw c.from_residual.ensures (moves_flag a.canvas a.reference.now a.target.now a.radius a.k (near_from a.near) a.four (λ g t. four_tried g t a.k (near_from a.near)) _ c.if-not-four.false (moves_no_first a.canvas a.reference.now a.target.now a.radius a.k (near_from a.near) c.in_err-p.ensures))

pub second_pair-requires : goal.second_pair-requires
second_pair-requires c =
    let p = pair_codes _ _ _ c.in_ok-p.ensures in
    (c.requires.0, c.requires.1, codable_inside _ _ p.0, codable_inside _ _ p.1)

pub returns-in_err-q : goal.returns-in_err-q
returns-in_err-q c =
    let a = c.args in
    rw c.from_residual-in_err-q.ensures (moves_flag a.canvas a.reference.now a.target.now a.radius a.k (near_from a.near) a.four (λ g t. four_tried g t a.k (near_from a.near)) _ c.if-not-four.false (moves_no_second a.canvas a.reference.now a.target.now a.radius a.k (near_from a.near) _ c.in_ok-p.ensures c.in_err-q.ensures))

pub returns : goal.returns
returns c =
    let a = c.args in
    moves_flag a.canvas a.reference.now a.target.now a.radius a.k (near_from a.near) a.four (λ g t. four_tried g t a.k (near_from a.near)) _ c.if-not-four.false (moves_four a.canvas a.reference.now a.target.now a.radius a.k (near_from a.near) _ _ c.in_ok-p.ensures c.in_ok-q.ensures)
