-- The squared distance of two planes by macroblocks.
-- Assumes nothing.
use Rattle.std.specs.Prelude.{◌≡◌, ℕ, ◌+◌, ◌*◌, ◌<◌, List, length}
use Rattle.std.proofs.Common.{sym, ap, ◌∙◌, mul_comm}
use Rattle.std.proofs.Math.Arith.{digits_div, digits_mod}
use Rattle.bits.specs.Basics.{sum}
use Rattle.bits.specs.SumLaws.{sum_same, sum_rows_lem, sum_swap}
use Rattle.leaf.specs.Leaf.{sse}
use Rattle.leaf.specs.DistanceLaws.{square_of, sse-sum}
use Rattle.mv_cache.specs.Grid.{entry_of, part}
use Rattle.mv_cache.specs.GridLaws.{length_part, part_at}

-- all entries of a plane, macroblock by macroblock
module _ (s cols rows : ℕ) (f : ℕ → ℕ) where
  abbrev cell : ℕ → ℕ → ℕ → ℕ → ℕ
  cell q y m x = f ((q * s + y) * (s * cols) + (m * s + x))

  by_blocks : sum (λ k. sum (λ j. f (entry_of s cols k j)) (s * s)) (rows * cols) ≡ sum f (rows * s * (s * cols))
  by_blocks =
      sum_rows_lem (λ k. sum (λ j. f (entry_of s cols k j)) (s * s)) rows cols
      ∙ sum_same _ _ rows (λ q hq.
      sum_same _ (λ m. sum (λ y. sum (λ x. cell q y m x) s) s) cols (λ m hm.
      sum_rows_lem (λ j. f (entry_of s cols (q * cols + m) j)) s s
      ∙ sum_same _ _ s (λ y hy. sum_same _ _ s (λ x hx. rw (digits_div q hm, digits_mod q hm, digits_div y hx, digits_mod y hx))))
      ∙ sum_swap (λ m y. sum (λ x. cell q y m x) s) cols s
      ∙ sum_same _ _ s (λ y hy.
      sym (ap (sum (λ c. f ((q * s + y) * (s * cols) + c))) (mul_comm s cols)
      ∙ sum_rows_lem (λ c. f ((q * s + y) * (s * cols) + c)) cols s)))
      ∙ sym (sum_rows_lem f (rows * s) (s * cols) ∙ sum_rows_lem (λ row. sum (λ c. f (row * (s * cols) + c)) (s * cols)) rows s)

module _ (s cols : ℕ) (some : 0 < s) (wide : 0 < cols) (xs ys : List ℕ) where
  -- macroblock k of both, entry by entry
  pub sse-part : (k : ℕ) → sse (part s cols k xs) (part s cols k ys) ≡ sum (λ j. square_of xs ys (entry_of s cols k j)) (s * s)
  sse-part k =
      let same = length_part s cols some wide k in
      sse-sum (part s cols k xs) (part s cols k ys) (same xs ∙ sym (same ys)) ∙ ap (sum (square_of (part s cols k xs) (part s cols k ys))) (same xs)
      ∙ sum_same _ _ (s * s) (λ j l. rw (part_at s cols some wide k xs j l, part_at s cols some wide k ys j l))

  -- all macroblocks
  pub sse_blocks : (rows : ℕ) → length xs ≡ rows * s * (s * cols) → length ys ≡ rows * s * (s * cols) → sum (λ k. sse (part s cols k xs) (part s cols k ys)) (rows * cols) ≡ sse xs ys
  sse_blocks rows hx hy =
      sum_same _ (λ k. sum (λ j. square_of xs ys (entry_of s cols k j)) (s * s)) (rows * cols) (λ k h. sse-part k)
      ∙ by_blocks s cols rows (square_of xs ys)
      ∙ sym (sse-sum xs ys (hx ∙ sym hy) ∙ ap (sum (square_of xs ys)) hx)
