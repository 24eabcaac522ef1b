-- `all_met` meets its contract: std's `all` is the definition's `every`.
use Rattle.std.proofs.Common.{◌∙◌, eqb, rules, tests}
use Rattle.std.proofs.lemmas.Iterator.{YieldsList-from_slice}
use Rattle.std.proofs.lemmas.Iterator.Search.{all_from_yields_List}
use Rattle.book_file.specs.BookFileFormsLaws.{every_all}
use Rattle.book_file.proofs.all_met.Goals as goal

pub returns : goal.returns
returns c =
    let met = c.args.met.now in
    all_from_yields_List (λ m. eqb m 1) _ _ c.all.result c.all.ensures.ran (YieldsList-from_slice met cc) (λ x b q k. search (rules, tests))
    ∙ every_all (λ m. eqb m 1) met
