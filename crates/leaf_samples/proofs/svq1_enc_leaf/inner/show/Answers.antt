-- The samples that sums show, one after the other. Assumes nothing.
use mathlib.Core.Path.{refl, ◌∙◌, sym}
use lib.ListN.{length-set}
use Rattle.bits.specs.FillLaws.{fill_step, fill_end}
use Rattle.leaf.specs.Leaf.{samples}
use Rattle.leaf.specs.LeafForms.{less}
use Rattle.leaf_samples.specs.RaisedLaws.{samples_at, length_shown_sums}
use native.Mathlib.Omega.{arith}
use borrow.Author.Rules.{rules}
use Rattle.leaf_samples.proofs.svq1_enc_leaf.inner.show.Goals as goal

pub loop-i-init : goal.loop-i-init
loop-i-init c = (search rules, refl, refl)

pub loop-i-preserved : goal.loop-i-preserved
loop-i-preserved c =
    let l = c.loop-i in
    let a = c.args in
    let w = samples (less a.bias a.a.now) in
    let n = length_shown_sums a.bias a.a.now in (
      simp length-set (omega arith),
      simp length-set l.invariant.1,
      fill_step w l.out l.i c.narrow.result (search rules) (omega arith) l.invariant.2
          (c.narrow.ensures ∙ c.shown.ensures ∙ sym (samples_at a.bias a.a.now l.i (omega arith))),
    )

pub returns : goal.returns
returns c =
    let l = c.loop-i in
    let a = c.args in
    let n = length_shown_sums a.bias a.a.now in
    fill_end (samples (less a.bias a.a.now)) l.out l.i (omega arith) (omega arith) l.invariant.2
