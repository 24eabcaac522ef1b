-- A leaf's bits, by its code. Assumes nothing.
use mathlib.Core.Path.{◌∙◌, sym}
use Rattle.leaf.specs.LentNeedsLaws.{skip_size}
use Rattle.leaf.proofs.svq1_enc_leaf.inner.leaf_bits.Goals as goal

pub returns-in-Skip : goal.returns-in-Skip
returns-in-Skip c =
    let s = c in
    let a = s.args in
    rw c.in-Skip.is (λ js six. c.entry_len.ensures ∙ sym (skip_size a.half a.stage.now a.means.now js s.requires.0))
