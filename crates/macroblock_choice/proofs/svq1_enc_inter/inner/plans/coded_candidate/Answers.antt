-- What a plan states is what its tree weighs. Assumes nothing.
use native.Mathlib.Omega.{arith}
use mathlib.Core.Path.{refl}
use Rattle.mv_cache.specs.CacheNeeds.{near_from}
use Rattle.macroblock.specs.MotionForms.{motion_of}
use Rattle.macroblock.specs.MacroblockNeeds.{given_by}
use Rattle.macroblock.specs.MacroblockNeedsLaws.{book_passes}
use Rattle.macroblock_choice.specs.ChosenNeedsLaws.{plan_few, made_by}
use Rattle.macroblock_choice.proofs.svq1_enc_inter.inner.plans.coded_candidate.Goals as goal

pub candidate_of-requires : goal.candidate_of-requires
candidate_of-requires c =
    let s = c in
    let a = s.args in
    (book_passes (given_by a.canvas a.reference.now a.book.now a.codebook.now) a.raised.now s.requires.0.ok, s.requires.1, s.requires.2.differs, plan_few (given_by a.canvas a.reference.now a.book.now a.codebook.now) a.raised.now a.k a.target.now s.requires.0 (λ j. omega (arith, c.type_inv.target j)) (λ j. omega (arith, c.type_inv.reference j)) a.settings (motion_of a.motion a.vectors) _ c.plan_motion-p.ensures)

pub returns : goal.returns
returns c =
    let s = c in
    let a = s.args in
    made_by (given_by a.canvas a.reference.now a.book.now a.codebook.now) a.raised.now a.k a.target.now s.requires.0 (λ j. omega (arith, c.type_inv.target j)) (λ j. omega (arith, c.type_inv.reference j)) a.settings (motion_of a.motion a.vectors) _ c.plan_motion-p.ensures (near_from a.near) a.motion a.vectors _ refl s.requires.2 c.candidate_of.ensures
