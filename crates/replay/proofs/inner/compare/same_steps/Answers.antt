-- All of the first n are the same. Assumes nothing.
use Rattle.std.proofs.Common.{◌≡◌, ◌∙◌, ◌+◌, ℕ, zero, suc, Bool, true, false, ◌&&◌, List, refl, ap, arith, rules, tests}
use Rattle.std.proofs.iter.Serving.{serving}
use Rattle.std.specs.List.{range_with_len, list_all}
use Rattle.std.proofs.lemmas.Iterator.{YieldsList-from_range}
use Rattle.std.proofs.lemmas.Iterator.Search.{all_from_yields_List}
use Rattle.replay.specs.Compare.{same_step, same_steps}
use Rattle.replay.proofs.inner.compare.same_steps.Goals as goal

no_more : (a : Bool) → (a && true) ≡ a
no_more true = refl
no_more false = refl

one_more : (a b c : Bool) → (a && (b && c)) ≡ ((a && b) && c)
one_more true b c = refl
one_more false b c = refl

-- those before macroblock i, and n from it on
from : (t s : List ℕ) (n i j : ℕ) → i + n ≡ j → (same_steps t s i && list_all (same_step t s) (range_with_len i n)) ≡ same_steps t s j
unfolding same_steps
from t s zero i j h =
    let here : i ≡ j = omega arith in
    no_more (same_steps t s i) ∙ ap (same_steps t s) here
from t s (suc n) i j h =
    let next : i + 1 ≡ suc i = omega arith in
    rw next (one_more (same_steps t s i) (same_step t s i) (list_all (same_step t s) (range_with_len (suc i) n)) ∙ from t s n (suc i) j (omega arith))

pub all-requires-clause-callable : goal.all-requires-clause-callable
all-requires-clause-callable c = grind (serving, arith, c.requires)

pub returns : goal.returns
unfolding same_steps
returns c =
    let t = c.args.steps.now in
    let s = c.args.stated.now in
    let n = c.args.n in
    all_from_yields_List (same_step t s) _ _ c.all.result c.all.ensures.ran (YieldsList-from_range 0 n n refl (omega arith)) (λ x b q k. search (rules, tests))
    ∙ from t s n 0 n (omega arith)
