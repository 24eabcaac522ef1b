-- Laws of the squared distance of two runs: as a sum over their samples, and its most.
-- Assumes nothing.
use Rattle.std.specs.Prelude.{ℕ, suc, ◌+◌, ◌*◌, ◌≤◌, ◌<◌, List, [], ◌∷◌, ◌≡◌, refl, length, get_or}
use Rattle.std.proofs.Common.{zero-le, sym, ap, ◌∙◌, mul-le-mul, arith}
use Rattle.bits.specs.Basics.{Bytes, gap, sum}
use Rattle.bits.specs.SumLaws.{sum_first}
use Rattle.leaf.specs.Leaf.{sse}

-- the squared distance at place j
abbrev pub square_of : List ℕ → List ℕ → ℕ → ℕ
square_of xs ys j = gap (get_or xs j 0) (get_or ys j 0) * gap (get_or xs j 0) (get_or ys j 0)

pub sse-sum : (xs ys : List ℕ) → length xs ≡ length ys → sse xs ys ≡ sum (square_of xs ys) (length xs)
unfolding sse sum
sse-sum [] ys h = refl
sse-sum (x ∷ xs) [] h = absurd (omega arith)
sse-sum (x ∷ xs) (y ∷ ys) h =
    ap (λ (n : ℕ). gap x y * gap x y + n) (sse-sum xs ys (omega arith)) ∙ sym (sum_first (square_of (x ∷ xs) (y ∷ ys)) (length xs))

-- of two bytes, and of n bytes from n others
pub gap_most : (x y : ℕ) → x < 256 → y < 256 → gap x y * gap x y ≤ 65025
gap_most x y a b = let h : gap x y ≤ 255 = omega arith in mul-le-mul h h

pub sse_most : (xs ys : List ℕ) → Bytes xs → Bytes ys → sse xs ys ≤ 65025 * length ys
unfolding sse
sse_most [] ys a b = zero-le
sse_most (x ∷ xs) [] a b = omega arith
sse_most (x ∷ xs) (y ∷ ys) a b = omega (arith, gap_most x y (a 0) (b 0), sse_most xs ys (λ k. a (suc k)) (λ k. b (suc k)))
