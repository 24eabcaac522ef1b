-- The sum over a range's numbers, and a bound on it. Assumes nothing.
use Rattle.std.specs.Prelude.{ℕ, zero, suc, ◌+◌, ◌*◌, ◌≤◌, ◌≡◌, refl, map}
use Rattle.std.proofs.Common.{arith, ap, sym, add-one, mul-suc, ◌∙◌}
use Rattle.std.specs.List.{sum as list_sum, range_with_len}
use Rattle.std.proofs.lemmas.List.FromFn.{sum_by-map-range_with_len_more}
use Rattle.bits.specs.Basics.{sum}

pub range_sum : (h : ℕ → ℕ) (n : ℕ) → list_sum (map h (range_with_len 0 n)) ≡ sum h n
unfolding sum
range_sum h zero = refl
range_sum h (suc n) =
    ap (λ (k : ℕ). list_sum (map h (range_with_len 0 k))) (sym (add-one n)) ∙ sum_by-map-range_with_len_more (λ x. x) h 0 n n (omega arith) ∙ ap (λ (x : ℕ). x + h n) (range_sum h n)

pub sum_most : (h : ℕ → ℕ) (b : ℕ) → ((j : ℕ) → h j ≤ b) → (n : ℕ) → sum h n ≤ b * n
unfolding sum
sum_most h b m zero = omega arith
sum_most h b m (suc n) = rw mul-suc (omega (arith, sum_most h b m n, m n))
