-- Laws of the absolute error: in rows, and of a row as a sum.
-- Assumes nothing.
use Rattle.std.specs.Prelude.{ℕ, zero, suc, ◌+◌, ◌*◌, ◌<◌, ◌≤◌, ◌≡◌, refl, List, [], ◌∷◌, length, get_or, take, drop}
use Rattle.std.proofs.Common.{sym, ap, ap₂, ◌∙◌, arith, mul-zero, mul-suc, length-drop, length-take-le, get_or-take, get_or-drop, drop-drop, ext_get_or}
use Rattle.bits.specs.Basics.{gap, sum, values_from}
use Rattle.bits.specs.BasicsLaws.{length_values, value_at}
use Rattle.bits.specs.SumLaws.{sum_same, sum_first}
use Rattle.compensation.specs.Error.{sad}

-- ---- in rows
pub sad-none : (xs : List ℕ) → sad xs [] ≡ 0
unfolding sad
sad-none [] = refl
sad-none (x ∷ xs) = refl

sad_split : (k : ℕ) (xs ys : List ℕ) → sad xs ys ≡ sad (take k xs) (take k ys) + sad (drop k xs) (drop k ys)
unfolding sad
sad_split zero xs ys = omega arith
sad_split (suc k) [] ys = refl
sad_split (suc k) (x ∷ xs) [] = omega (arith, sad-none (drop k xs))
sad_split (suc k) (x ∷ xs) (y ∷ ys) = omega (arith, sad_split k xs ys)

-- m rows of n, and what is left behind them
pub sad-rows : (n m : ℕ) (xs ys : List ℕ)
    → sad xs ys ≡ sum (λ i. sad (take n (drop (n * i) xs)) (take n (drop (n * i) ys))) m + sad (drop (n * m) xs) (drop (n * m) ys)
unfolding sum
sad-rows n zero xs ys = rw (mul-zero n) (omega arith)
sad-rows n (suc m) xs ys =
    let a : List ℕ = drop (n * m) xs in
    let b : List ℕ = drop (n * m) ys in
    let e : sad (drop n a) (drop n b) ≡ sad (drop (n * suc m) xs) (drop (n * suc m) ys) = rw mul-suc (ap₂ sad (drop-drop n (n * m) xs) (drop-drop n (n * m) ys)) in
    omega (arith, sad-rows n m xs ys, sad_split n a b, e)

-- ---- a row as a sum
sad-sum : (xs : List ℕ) (f : ℕ → ℕ) (n j : ℕ) → length xs ≡ n → sad xs (values_from f n j) ≡ sum (λ k. gap (get_or xs k 0) (f (j + k))) n
unfolding sad sum values_from
sad-sum [] f zero j e = refl
sad-sum [] f (suc n) j e = absurd (omega arith)
sad-sum (x ∷ xs) f zero j e = absurd (omega arith)
sad-sum (x ∷ xs) f (suc n) j e =
    let here : j + 0 ≡ j = omega arith in
    ap₂ (λ (a b : ℕ). a + b) (ap (λ (i : ℕ). gap x (f i)) (sym here))
    (sad-sum xs f n (suc j) (omega arith)
    ∙ sum_same _ _ n (λ k h. let next : suc j + k ≡ j + suc k = omega arith in ap (λ (i : ℕ). gap (get_or xs k 0) (f i)) next))
    ∙ sym (sum_first (λ k. gap (get_or (x ∷ xs) k 0) (f (j + k))) n)

length_part : (xs : List ℕ) (m n : ℕ) → m + n ≤ length xs → length (take n (drop m xs)) ≡ n
length_part xs m n h = length-take-le n (drop m xs) (simp length-drop (omega arith))

part_at : (xs : List ℕ) (m n k : ℕ) → k < n → get_or (take n (drop m xs)) k 0 ≡ get_or xs (m + k) 0
part_at xs m n k h = get_or-take n (drop m xs) k 0 h ∙ get_or-drop m xs k 0

values_part : (f : ℕ → ℕ) (m n l : ℕ) → m + n ≤ l → take n (drop m (values_from f l 0)) ≡ values_from f n m
values_part f m n l h =
    let xs : List ℕ = values_from f l 0 in
    let e : length (take n (drop m xs)) ≡ n = length_part xs m n (rw length_values h) in
    ext_get_or 0 _ _ (e ∙ sym (length_values f n m)) (λ k q.
    let r : k < n = rw e at q in
    let z : 0 + (m + k) ≡ m + k = omega arith in
    part_at xs m n k r ∙ value_at f l 0 (m + k) 0 (omega arith) ∙ ap f z ∙ sym (value_at f n m k 0 r))

-- the n samples from m on of a list, against those of l values
pub row_sum_lem : (xs : List ℕ) (f : ℕ → ℕ) (m n l : ℕ) → m + n ≤ length xs → m + n ≤ l
    → sad (take n (drop m xs)) (take n (drop m (values_from f l 0))) ≡ sum (λ k. gap (get_or xs (m + k) 0) (f (m + k))) n
row_sum_lem xs f m n l h q =
    ap (sad (take n (drop m xs))) (values_part f m n l q)
    ∙ sad-sum (take n (drop m xs)) f n m (length_part xs m n h)
    ∙ sum_same _ _ n (λ k r. ap (λ (s : ℕ). gap s (f (m + k))) (part_at xs m n k r))
