-- Those of the first n that have the mode. Assumes nothing.
use Rattle.std.proofs.Common.{◌≡◌, ◌∙◌, ◌+◌, ◌*◌, ℕ, zero, suc, Bool, true, false, cond, List, ◌∷◌, length, filter, get_or, eqb, refl, arith, rules, tests}
use Rattle.std.specs.List.{range_with_len}
use Rattle.std.proofs.lemmas.Iterator.{YieldsList-from_range}
use Rattle.std.proofs.lemmas.Iterator.Consumers.{YieldsList-at, YieldsList-from_filter, count_from_yields_List}
use Rattle.bits.specs.Basics.{pick}
use Rattle.macroblock.specs.Mode.{mode_position}
use Rattle.replay.specs.Compare.{modes_in}
use Rattle.replay.proofs.inner.compare.count_mode.Goals as goal

abbrev has : List ℕ → ℕ → ℕ → Bool
has s m k = eqb (get_or s (3 * k) 0) m

one_more : (b : Bool) (x a : ℕ) (t : List ℕ) → a + length (cond b (x ∷ t) t) ≡ a + pick b 1 0 + length t
one_more true x a t = omega arith
one_more false x a t = omega arith

none_before : (x : ℕ) → x ≡ 0 + x
none_before x = omega arith

-- those before macroblock i, and of the n from it on
from : (s : List ℕ) (m n i j : ℕ) → i + n ≡ j → modes_in s m i + length (filter (has s m) (range_with_len i n)) ≡ modes_in s m j
unfolding modes_in
from s m zero i j h =
    let here : i ≡ j = omega arith in
    rw here (omega arith)
from s m (suc n) i j h =
    let next : i + 1 ≡ suc i = omega arith in
    rw next (one_more (has s m i) i (modes_in s m i) (filter (has s m) (range_with_len (suc i) n)) ∙ from s m n (suc i) j (omega arith))

pub returns : goal.returns
unfolding modes_in
returns c =
    let s = c.args.stated.now in
    let m = mode_position c.args.mode in
    let n = c.args.n in
    count_from_yields_List _ _ c.count.ensures.ran (YieldsList-from_filter _ (has s m) (YieldsList-at c.filter.ensures.source (YieldsList-from_range 0 n n refl (omega arith))) c.filter.ensures.closure (λ x b q k. search (rules, tests)))
    ∙ none_before _
    ∙ from s m n 0 n (omega arith)
