-- `text::find` meets its contract: the place of the first byte that is b.
use Rattle.std.proofs.Common.{eqb, rules, tests}
use Rattle.std.proofs.lemmas.Iterator.{YieldsList-from_slice}
use Rattle.std.proofs.lemmas.Iterator.Search.{position_from_yields_List}
use Rattle.text.specs.TextLaws.{text_found}
use Rattle.text.proofs.find.Goals as goal

pub returns : goal.returns
returns c =
    let a = c.args in
    text_found a.b a.t.now c.position.result
    (position_from_yields_List (λ x. eqb x a.b) _ _ c.position.result c.position.ensures.ran (YieldsList-from_slice a.t.now cc) (λ x b q k. search (rules, tests)))
