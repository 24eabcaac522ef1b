-- Asked only where those before pass. Assumes nothing.
use mathlib.Core.Path.{sym, ap, ◌∙◌}
use Rattle.bits.specs.Refusals.{number_told}
use Rattle.bits.specs.CallsLaws.{told_none, told_some, told_err}
use Rattle.picture.specs.RefusalsLaws.{behind_asked, behind_refused}
use Rattle.picture.proofs.inner.next_refusal.Goals as goal

pub returns-then-is_some : goal.returns-then-is_some
returns-then-is_some c = sym (behind_refused _ _ (told_some _ (sym c.is_some.ensures ∙ c.if-is_some.true)))

pub returns : goal.returns
returns c =
    let told = ap number_told c.err.ensures.value ∙ told_err c.check_write.result ∙ c.check_write.ensures in
    told ∙ sym (behind_asked _ _ (told_none _ (sym c.is_some.ensures ∙ c.if-is_some.false)))
