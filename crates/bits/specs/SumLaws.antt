-- Laws of sums: one term more, term by term, from the front, of two runs, in rows, by columns, a part of the terms.
-- Assumes nothing.
use Rattle.std.specs.Prelude.{ℕ, zero, suc, ◌+◌, ◌*◌, ◌<◌, ◌≤◌, ◌≡◌, refl}
use Rattle.std.proofs.Common.{sym, ap, ap₂, ◌∙◌, add-zero, add-suc, add_assoc, suc-mul, zero-mul, add-one, arith}
use Rattle.bits.specs.Basics.{sum}

pub sum_more : (f : ℕ → ℕ) (i s v : ℕ) → s ≡ sum f i → v ≡ f i → s + v ≡ sum f (i + 1)
unfolding sum
sum_more f i s v p q = rw add-one (simp (p, q))

pub sum_same : (f g : ℕ → ℕ) (n : ℕ) → ((k : ℕ) → k < n → f k ≡ g k) → sum f n ≡ sum g n
unfolding sum
sum_same f g zero h = refl
sum_same f g (suc n) h = ap₂ ◌+◌ (sum_same f g n (λ k l. h k (omega arith))) (h n (omega arith))

pub sum_le : (f : ℕ → ℕ) (i n : ℕ) → sum f i ≤ sum f (i + n)
unfolding sum
sum_le f i zero = let e : i + 0 ≡ i = omega arith in rw e (omega arith)
sum_le f i (suc n) = let e : i + suc n ≡ suc (i + n) = omega arith in rw e (let h = sum_le f i n in omega arith)

-- no term grows, so the sum does not
pub sum_each_le : (f g : ℕ → ℕ) (n : ℕ) → ((k : ℕ) → k < n → f k ≤ g k) → sum f n ≤ sum g n
unfolding sum
sum_each_le f g zero h = omega arith
sum_each_le f g (suc n) h = omega (arith, sum_each_le f g n (λ k l. h k (omega arith)), h n (omega arith))

pub sum_first : (f : ℕ → ℕ) (n : ℕ) → sum f (suc n) ≡ f 0 + sum (λ i. f (suc i)) n
unfolding sum
sum_first f zero = omega arith
sum_first f (suc n) = ap (λ (x : ℕ). x + f (suc n)) (sum_first f n) ∙ add_assoc (f 0) (sum (λ i. f (suc i)) n) (f (suc n))

pub sum_add : (f : ℕ → ℕ) (n m : ℕ) → sum f (n + m) ≡ sum f n + sum (λ i. f (n + i)) m
unfolding sum
sum_add f n zero = ap (sum f) (add-zero n) ∙ sym (add-zero (sum f n))
sum_add f n (suc m) = ap (sum f) (add-suc n m) ∙ ap (λ (x : ℕ). x + f (n + m)) (sum_add f n m) ∙ add_assoc (sum f n) (sum (λ i. f (n + i)) m) (f (n + m))

-- a rows of c terms
pub sum_rows_lem : (f : ℕ → ℕ) (a c : ℕ) → sum f (a * c) ≡ sum (λ q. sum (λ r. f (q * c + r)) c) a
unfolding sum
sum_rows_lem f zero c = ap (sum f) (zero-mul c)
sum_rows_lem f (suc a) c = ap (sum f) (suc-mul a c) ∙ sum_add f (a * c) c ∙ ap (λ (x : ℕ). x + sum (λ r. f (a * c + r)) c) (sum_rows_lem f a c)

-- ---- two sums at once, and a sum of sums in the other order
sum-plus : (f g : ℕ → ℕ) (n : ℕ) → sum (λ i. f i + g i) n ≡ sum f n + sum g n
unfolding sum
sum-plus f g zero = refl
sum-plus f g (suc n) = omega (arith, sum-plus f g n)

sum_zero : (n : ℕ) → sum (λ i. 0) n ≡ 0
unfolding sum
sum_zero zero = refl
sum_zero (suc n) = add-zero (sum (λ i. 0) n) ∙ sum_zero n

pub sum_swap : (f : ℕ → ℕ → ℕ) (n m : ℕ) → sum (λ i. sum (f i) m) n ≡ sum (λ j. sum (λ i. f i j) n) m
unfolding sum
sum_swap f zero m = sym (sum_zero m)
sum_swap f (suc n) m = ap (λ (x : ℕ). x + sum (f n) m) (sum_swap f n m) ∙ sym (sum-plus (λ j. sum (λ i. f i j) n) (f n) m)
