-- The largest of the entries' lengths is the table's longest. Assumes nothing.
use mathlib.Core.List.{List}
use Prim.Native.Nat.{ℕ, ◌/◌}
use lib.ListN.{length}
use native.Mathlib.Omega.{arith}
use Rattle.std.proofs.Common.{rules, ap, ◌∙◌}
use borrow.Author.Tests.{tests}
use Rattle.std.specs.List.{range_with_len}
use Rattle.std.specs.Option.{unwrap_or}
use Rattle.std.proofs.lemmas.Iterator.{YieldsList-from_map, YieldsList-from_range}
use Rattle.std.proofs.lemmas.Iterator.Consumers.{reduce_from_yields_List}
use Rattle.std.proofs.lemmas.List.Folds.{max_of_map}
use Rattle.code_tables.specs.Codes.{code_len}
use Rattle.plane_room.proofs.LongestFold.{all_longest}
use Rattle.plane_room.proofs.longest_code.Goals as goal

pub returns : goal.returns
returns c =
    let t : List ℕ = c.args.table.now in
    c.unwrap_or.ensures ∙ ap (λ o. unwrap_or o 0) (reduce_from_yields_List _ c.map.result _ c.max.ensures.ran (YieldsList-from_map _ (code_len t) (YieldsList-from_range 0 _ (length t / 3) c.map.ensures.source (omega arith)) c.map.ensures.closure (λ x b q k. search (rules, tests)))) ∙ max_of_map (code_len t) (range_with_len 0 (length t / 3)) ∙ all_longest t
