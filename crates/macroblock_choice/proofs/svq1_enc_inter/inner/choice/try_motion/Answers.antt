-- One motion, in its room or not. Assumes nothing.
use Rattle.std.proofs.Common.{arith, refl}
use Rattle.mv_cache.specs.CacheNeeds.{near_from}
use Rattle.macroblock.specs.MotionForms.{motion_of}
use Rattle.macroblock.specs.MacroblockNeeds.{given_by}
use Rattle.macroblock_choice.specs.CandidateNeedsLaws.{kept_in, kept_out}
use Rattle.macroblock_choice.specs.ChosenNeedsLaws.{try_one}
use Rattle.macroblock_choice.proofs.svq1_enc_inter.inner.choice.try_motion.Goals as goal

pub coded_candidate-c-requires : goal.coded_candidate-c-requires
coded_candidate-c-requires c = (c.requires.0, c.requires.1, c.requires.2)

pub returns-then-room-c : goal.returns-then-room-c
returns-then-room-c c =
    let a = c.args in
    try_one (given_by a.canvas a.reference.now a.book.now a.codebook.now) a.raised.now a.k a.target.now c.requires.0 (λ j. omega (arith, c.type_inv.target j)) (λ j. omega (arith, c.type_inv.reference j)) a.settings (motion_of a.tried.motion a.tried.vectors) a.room (near_from a.near) _ a.best _ _ refl c.requires.3 c.coded_candidate-c.ensures
    (kept_out a.settings.lambda a.room a.best _ c.if-room-c.true)

pub returns : goal.returns
returns c =
    let a = c.args in
    try_one (given_by a.canvas a.reference.now a.book.now a.codebook.now) a.raised.now a.k a.target.now c.requires.0 (λ j. omega (arith, c.type_inv.target j)) (λ j. omega (arith, c.type_inv.reference j)) a.settings (motion_of a.tried.motion a.tried.vectors) a.room (near_from a.near) _ a.best _ _ refl c.requires.3 c.coded_candidate-c.ensures
    (kept_in a.settings.lambda a.room a.best _ _ c.if-room-c.false c.better.ensures)
