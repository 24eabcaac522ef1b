-- The stages, one behind the other. Assumes nothing.
use mathlib.Core.Path.{◌≡◌, refl, ◌∙◌}
use lib.ListN.{length, get_or}
use Rattle.bits.specs.BitsLaws.{length_msb}
use Rattle.leaf.specs.LentNeedsLaws.{wrote_start, stage_put}
use native.Mathlib.Omega.{arith}
use borrow.Author.Rules.{rules}
use Rattle.leaf.proofs.svq1_enc_leaf.inner.put_stages.Goals as goal

pub loop-i-init : goal.loop-i-init
loop-i-init c = (refl, omega arith, wrote_start c.args.out.now c.args.at)

pub loop-i-preserved : goal.loop-i-preserved
loop-i-preserved c =
    let l = c.loop-i in
    let w = c.put_bits-p in
    let six : length c.args.stages ≡ 6 = c.well_formed.1.1.1.0.1.0.1 in (
      w.auto.out ∙ l.invariant.0,
      omega (arith, w.ensures.behind, length_msb 4 (get_or c.args.stages l.i 0), l.invariant.1),
      stage_put c.args.stages l.i (get_or c.args.stages l.i 0) (omega arith) refl (search rules) l.invariant.2 w.ensures,
    )
