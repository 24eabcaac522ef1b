-- The plan by the motion's half, and over its baseline. Assumes nothing.
use native.Mathlib.Omega.{arith}
use mathlib.Core.Path.{ap, ◌∙◌}
use lib.ListN.{length}
use Rattle.macroblock.specs.Choice.{plane_terms}
use Rattle.macroblock.specs.MotionForms.{motion_of}
use Rattle.macroblock.specs.MacroblockNeeds.{given_by}
use Rattle.macroblock.specs.MacroblockNeedsLaws.{stands}
use Rattle.macroblock.specs.SampleNeedsLaws.{length_baseline}
use Rattle.macroblock_choice.specs.ChosenNeedsLaws.{plan_ready, found_by}
use Rattle.macroblock_choice.proofs.svq1_enc_inter.inner.plans.plan_over.Goals as goal

pub baseline_of-requires : goal.baseline_of-requires
baseline_of-requires c =
    let s = c in
    let a = s.args in
    (stands (given_by a.canvas a.reference.now a.book.now a.codebook.now) a.raised.now s.requires.0.ok a.k s.requires.0.number, s.requires.1)

pub plan-requires : goal.plan-requires
plan-requires c =
    let s = c in
    let a = s.args in
    plan_ready (given_by a.canvas a.reference.now a.book.now a.codebook.now) a.raised.now a.k a.target.now s.requires.0 (λ j. omega (arith, c.type_inv.target j)) (λ j. omega (arith, c.type_inv.reference j)) a.settings (motion_of a.motion a.vectors) _ _ (c.plane_terms-terms.ensures ∙ ap (plane_terms a.settings.margin) (c.half_of.ensures a.vectors))
    (ap length (c.baseline_of.ensures a.book.now a.codebook.now) ∙ length_baseline (given_by a.canvas a.reference.now a.book.now a.codebook.now) a.k (motion_of a.motion a.vectors))

pub returns : goal.returns
returns c =
    let s = c in
    let a = s.args in
    found_by (given_by a.canvas a.reference.now a.book.now a.codebook.now) a.raised.now a.k a.target.now s.requires.0 (λ j. omega (arith, c.type_inv.target j)) (λ j. omega (arith, c.type_inv.reference j)) a.settings (motion_of a.motion a.vectors) _ _ _ (c.plane_terms-terms.ensures ∙ ap (plane_terms a.settings.margin) (c.half_of.ensures a.vectors)) (c.baseline_of.ensures a.book.now a.codebook.now) c.plan.ensures
