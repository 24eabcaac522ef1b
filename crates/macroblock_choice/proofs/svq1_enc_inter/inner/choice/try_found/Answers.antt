-- The motion that was found, or none. Assumes nothing.
use Rattle.std.proofs.Common.{refl}
use Rattle.mv_cache.specs.CacheNeeds.{near_from}
use Rattle.macroblock.specs.MacroblockNeeds.{given_by}
use Rattle.macroblock_choice.specs.CandidateNeedsLaws.{tried-none}
use Rattle.macroblock_choice.proofs.svq1_enc_inter.inner.choice.try_found.Goals as goal

pub try_motion-requires : goal.try_motion-requires
try_motion-requires c =
    let q = rw c.in-Some.is at c.requires in
    (q.0, q.1.0, q.2, q.3)

pub returns-in-Some : goal.returns-in-Some
returns-in-Some c = rw c.in-Some.is c.try_motion.ensures

pub returns-in-None : goal.returns-in-None
returns-in-None c =
    let a = c.args in
    rw c.in-None.is (tried-none (given_by a.canvas a.reference.now a.book.now a.codebook.now) a.target.now a.settings a.room a.k (near_from a.near) a.best _ refl c.requires.3)
