-- `inner::any_start` meets its contract. Some entry's code begins with the bits where the definition finds one.
use Rattle.std.proofs.Common.{◌≡◌, ◌∙◌, ◌+◌, ◌/◌, ℕ, zero, suc, Bool, ◌||◌, List, [], length, drop, refl, ap, arith, rules, tests, drop-cons, drop_of_length-le}
use Rattle.std.proofs.iter.Serving.{serving}
use Rattle.std.specs.List.{range_with_len, list_any}
use Rattle.std.proofs.lemmas.Iterator.{YieldsList-from_range}
use Rattle.std.proofs.lemmas.Iterator.Search.{any_from_yields_List}
use Rattle.bits.specs.Bits.{msb}
use Rattle.code_tables.specs.Codes.{begins, codes_of, code_val, code_len, any_start}
use Rattle.code_tables.specs.CodesLaws.{good_is, code_at, length_codes_of}
use Rattle.code_tables.proofs.inner.any_start.Goals as goal

-- the bits are the start of the code of entry i
abbrev starts : List ℕ → List ℕ → ℕ → Bool
starts t bs i = begins bs (msb (code_len t i) (code_val t i))

entries : (t bs : List ℕ) (n i : ℕ) → i + n ≡ length t / 3 → list_any (starts t bs) (range_with_len i n) ≡ any_start (drop i (codes_of t)) bs
unfolding any_start
entries t bs zero i h = rw (drop_of_length-le (codes_of t) {i = i} (rw length_codes_of (omega arith)))
entries t bs (suc n) i h =
    let next : i + 1 ≡ suc i = omega arith in
    rw (drop-cons (codes_of t) i [] (rw length_codes_of (omega arith)), code_at t i (omega arith))
    (ap (◌||◌ (starts t bs i)) (entries t bs n (i + 1) (omega arith) ∙ ap (λ (k : ℕ). any_start (drop k (codes_of t)) bs) next))

pub any-requires-clause-callable : goal.any-requires-clause-callable
any-requires-clause-callable c =
    let g = good_is c.args.table.now c.requires.2 in
    grind (serving, arith, g.long, g.small, c.requires)

pub returns : goal.returns
returns c =
    let t = c.args.table.now in
    let bs = msb c.args.m c.args.w in
    any_from_yields_List (starts t bs) _ _ c.any.result c.any.ensures.ran (YieldsList-from_range 0 (length t / 3) (length t / 3) refl (omega arith)) (λ x b q k. search (rules, tests))
    ∙ entries t bs (length t / 3) 0 (omega arith)
