-- `inner::good_table` meets its contract. Every entry passes where the definition holds of the whole table.
use Rattle.std.proofs.Common.{◌≡◌, ◌∙◌, ◌+◌, ◌*◌, ◌/◌, ◌%◌, ℕ, zero, suc, Bool, ◌&&◌, List, length, drop, sym, refl, ap, arith, rules, tests}
use Rattle.std.specs.List.{range_with_len, list_all}
use Rattle.std.proofs.lemmas.Iterator.{YieldsList-from_range}
use Rattle.std.proofs.lemmas.Iterator.Search.{all_from_yields_List}
use Rattle.code_tables.specs.Codes.{code_val, code_len, good_entry, good_table}
use Rattle.code_tables.specs.CodesLaws.{good_step, good_end}
use Rattle.code_tables.proofs.inner.good_table.Goals as goal

-- entry i of t passes
abbrev passes : List ℕ → ℕ → Bool
passes t i = good_entry (code_val t i) (code_len t i)

entries : (t : List ℕ) (n i : ℕ) → length t % 3 ≡ 0 → i + n ≡ length t / 3 → list_all (passes t) (range_with_len i n) ≡ good_table (drop (3 * i) t)
entries t zero i w h = sym (good_end t i w (omega arith))
entries t (suc n) i w h = ap (◌&&◌ (passes t i)) (entries t n (i + 1) w (omega arith)) ∙ sym (good_step t i (omega arith))

pub returns : goal.returns
returns c =
    let t = c.args.table.now in
    all_from_yields_List (passes t) _ _ c.all.result c.all.ensures.ran (YieldsList-from_range 0 (length t / 3) (length t / 3) refl (omega arith)) (λ x b q k. search (rules, tests))
    ∙ entries t (length t / 3) 0 c.requires (omega arith)
