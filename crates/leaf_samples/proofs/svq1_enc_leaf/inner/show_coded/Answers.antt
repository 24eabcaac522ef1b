-- Seed, stages and samples. Assumes nothing.
use Rattle.leaf_samples.specs.ShowNeedsLaws.{coded_shown}
use mathlib.Core.Path.{◌∙◌}
use native.Mathlib.Omega.{arith}
use Rattle.leaf_samples.proofs.svq1_enc_leaf.inner.show_coded.Goals as goal

pub add_stages-requires : goal.add_stages-requires
add_stages-requires c =
    let p = c.requires in
    let d = c.seed in
    record { few = omega (arith, d.auto.a, p.1.sums, p.1.few); low = d.ensures.below; stages = rw (d.auto.a ∙ p.1.sums) p.2 }

pub returns : goal.returns
returns c =
    let s = c in
    let d = c.seed in
    coded_shown s.args.p.now s.args.book.now _ _ s.args.base s.args.mean s.args.count _ _ _ (d.auto.a ∙ s.requires.1.sums) d.ensures.a_after
    c.add_stages.ensures c.bias_of.ensures c.show.ensures
