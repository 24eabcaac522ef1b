-- Zero, the full samples and the places around their best, one after the other, are the definition's search.
use Rattle.motion.specs.CandidateForms.{spot_search, best_so_far}
use Rattle.motion.specs.ScanLaws.{whole}
use Rattle.motion.proofs.svq1_enc_inter.inner.search_best.Goals as goal

pub returns : goal.returns
unfolding best_so_far spot_search
returns c =
    let z = c.tried-zero in
    let f = c.full_best-full in
    (whole _ z.result f.result c.near_best.result z.ensures.0 f.ensures.0 c.near_best.ensures.0, c.near_best.ensures.1)
