-- A sum over the 63 blocks in their order is the sum over the tree: what ties the flat list to the recursion.
-- Assumes nothing.
use Rattle.std.specs.Prelude.{◌≡◌, length, get_or}
use Rattle.std.proofs.Math.Path.{refl}
use Rattle.std.proofs.Common.{◌∙◌, zero-add}
use mathlib.Core.List.{List, [], ◌∷◌}
use Prim.Native.Nat.{ℕ, zero, suc, ◌+◌}
use native.Mathlib.Omega.{arith}
use Rattle.std.proofs.Math.Nat.{add-zero}
use Rattle.tree.specs.Blocks.{left, right, level}

unfoldable pub twice : ℕ → ℕ
twice zero = zero
twice (suc n) = suc (suc (twice n))

-- the sum over a list of blocks from number i on, where `own` is what a block counts at a level
module _ {N : Type 0} (own : ℕ → N → ℕ) where
  abbrev pub list_sum : (ℕ → ℕ) → ℕ → List N → ℕ
  list_sum lev i [] = 0
  list_sum lev i (x ∷ t) = own (lev i) x + list_sum lev (suc i) t

module _ {N : Type 0} (own : ℕ → N → ℕ) (b : ℕ → N) where
  -- the sum over block i and all below it
  unfoldable pub tree-sum : ℕ → ℕ → ℕ
  tree-sum zero i = own zero (b i)
  tree-sum (suc d) i = own (suc d) (b i) + (tree-sum d (left i) + tree-sum d (right i))

  flat_fn : (ℕ → ℕ) → ℕ → ℕ → ℕ
  flat_fn lev zero i = 0
  flat_fn lev (suc n) i = own (lev i) (b i) + flat_fn lev n (suc i)

  flat_is : (lev : ℕ → ℕ) (t : List N) (i : ℕ) (z : N) → ((k : ℕ) → b (i + k) ≡ get_or t k z) → list_sum own lev i t ≡ flat_fn lev (length t) i
  unfolding flat_fn
  flat_is lev [] i z h = refl
  flat_is lev (x ∷ t) i z h =
      let e : b i ≡ x = rw add-zero at (h 0) in
      rw (e, flat_is lev t (suc i) z (λ k. let e2 : suc i + k ≡ i + suc k = omega arith in rw e2 (h (suc k))))

  own_row : ℕ → ℕ → ℕ → ℕ → ℕ
  own_row d a zero k = k
  own_row d a (suc n) k = own d (b a) + own_row d (suc a) n k

  tree_row : ℕ → ℕ → ℕ → ℕ
  tree_row d a zero = 0
  tree_row d a (suc n) = tree-sum d a + tree_row d (suc a) n

  own_row_add : (d a n x k : ℕ) → own_row d a n (x + k) ≡ x + own_row d a n k
  unfolding own_row
  own_row_add d a zero x k = refl
  own_row_add d a (suc n) x k = omega (arith, own_row_add d (suc a) n x k)

  row_step : (d a n k : ℕ) → tree_row (suc d) a n + k ≡ own_row (suc d) a n (tree_row d (left a) (twice n) + k)
  unfolding own_row tree_row tree-sum twice
  row_step d a zero k = refl
  row_step d a (suc n) k =
      let s = tree-sum d (left a) + tree-sum d (right a) in
      let m = tree_row d (left (suc a)) (twice n) + k in
      let e1 : suc (left a) ≡ right a = omega arith in
      let e2 : suc (suc (left a)) ≡ left (suc a) = omega arith in
      let e3 : tree-sum d (left a) + (tree-sum d (right a) + tree_row d (left (suc a)) (twice n)) + k ≡ s + m = omega arith in
      rw (e2, e1, e3) (omega (arith, own_row_add (suc d) (suc a) n s m, row_step d (suc a) n k))

  row_last : (a n k : ℕ) → tree_row zero a n + k ≡ own_row zero a n k
  unfolding own_row tree_row tree-sum
  row_last a zero k = omega arith
  row_last a (suc n) k = omega (arith, row_last (suc a) n k)

  rows : tree_row 5 0 1 + 0 ≡ own_row 5 0 1 (own_row 4 1 2 (own_row 3 3 4 (own_row 2 7 8 (own_row 1 15 16 (own_row 0 31 32 0)))))
  unfolding twice
  rows = rw (row_step 4 0 1 0, row_step 3 1 2 0, row_step 2 3 4 0, row_step 1 7 8 0, row_step 0 15 16 0, row_last 31 32 0)

  in_order_lem : own_row 5 0 1 (own_row 4 1 2 (own_row 3 3 4 (own_row 2 7 8 (own_row 1 15 16 (own_row 0 31 32 0))))) ≡ flat_fn level 63 0
  unfolding own_row flat_fn
  in_order_lem = refl

  -- the sum over the 63 blocks in their order is the sum over the tree
  flat-tree : flat_fn level 63 0 ≡ tree-sum 5 0
  unfolding tree_row
  flat-tree = omega (arith, rows, in_order_lem)

pub flat_is_tree : {N : Type 0} (own : ℕ → N → ℕ) (t : List N) (z : N) → length t ≡ 63
    → list_sum own level 0 t ≡ tree-sum own (λ i. get_or t i z) 5 0
flat_is_tree own t z h =
    flat_is own (λ i. get_or t i z) level t 0 z (λ k. rw zero-add)
    ∙ rw h (flat-tree own (λ i. get_or t i z))
