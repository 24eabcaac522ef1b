-- A macroblock's samples made of its parts, one after the other: the whole moved by one vector, and its quarters by four.
-- Assumes nothing.
use Prim.Native.Nat.{ℕ, zero, suc, ◌+◌, ◌*◌, ◌/◌, ◌%◌, ◌<◌}
use Rattle.std.specs.Prelude.{◌≡◌, List, [], ◌∷◌, get_or}
use Rattle.std.proofs.Math.Path.{refl}
use Rattle.std.proofs.Common.{sym, ap, ◌∙◌, arith, zero-add, ext_get_or}
use Rattle.std.proofs.Math.Decide.{dec_lt}
use Rattle.std.proofs.Math.ListN.{length}
use Rattle.bits.specs.Basics.{values_from}
use Rattle.bits.specs.BasicsLaws.{length_values, value_at}
use Rattle.vectors.specs.declared.svq1_motion_predictor.Svq1Mv.{Svq1Mv}
use Rattle.vectors.specs.Vectors.{zero_mv}
use Rattle.canvas.specs.Canvas.{Canvas}
use Rattle.compensation.specs.Compensation.{moved_sample, moved_block}
use Rattle.mv_cache.specs.Grid.{owner, place_in, entry_of, put_part}
use Rattle.mv_cache.specs.GridLaws.{length_put, put_own, put_other, owner_in}
use Rattle.mv_cache.specs.PutLaws.{entry_back, place_lt}
use Rattle.compensation.specs.MovedForms.{moved_part}

module _ (s cols : ℕ) (some : 0 < s) (wide : 0 < cols) where
  -- part q of xs, its sample at place p being f p
  abbrev put_by : (ℕ → ℕ) → ℕ → List ℕ → List ℕ
  put_by f q xs = put_part s cols q (values_from (λ j. f (entry_of s cols q j)) (s * s) 0) xs

  -- the first n parts, each by a function of its own
  unfoldable put_first : (ℕ → ℕ → ℕ) → ℕ → List ℕ → List ℕ
  put_first f zero xs = xs
  put_first f (suc n) xs = put_by (f n) n (put_first f n xs)

  length_first : (f : ℕ → ℕ → ℕ) (n : ℕ) (xs : List ℕ) → length (put_first f n xs) ≡ length xs
  unfolding put_first
  length_first f zero xs = refl
  length_first f (suc n) xs = length_put s cols n _ (put_first f n xs) ∙ length_first f n xs

  own_value : (f : ℕ → ℕ) (q : ℕ) (xs : List ℕ) (p : ℕ) → p < length xs → owner s cols p ≡ q → get_or (put_by f q xs) p 0 ≡ f p
  own_value f q xs p h e =
      put_own s cols q _ xs p h e
      ∙ value_at (λ j. f (entry_of s cols q j)) (s * s) 0 (place_in s cols p) 0 (place_lt s cols some wide p)
      ∙ ap (λ (j : ℕ). f (entry_of s cols q j)) (zero-add (place_in s cols p))
      ∙ ap (λ (k : ℕ). f (entry_of s cols k (place_in s cols p))) (sym e)
      ∙ ap f (entry_back s cols some wide p)

  -- a sample of them
  first_at : (f : ℕ → ℕ → ℕ) (n : ℕ) (xs : List ℕ) (p : ℕ) → p < length xs → owner s cols p < n → get_or (put_first f n xs) p 0 ≡ f (owner s cols p) p
  unfolding put_first
  first_at f zero xs p h l = absurd (omega arith)
  first_at f (suc n) xs p h l = go (dec_lt (owner s cols p) n) (first_at f n xs p h)
    where
      h' : p < length (put_first f n xs)
      h' = rw (length_first f n xs) h

      go : Dec (owner s cols p < n) → (owner s cols p < n → get_or (put_first f n xs) p 0 ≡ f (owner s cols p) p)
          → get_or (put_by (f n) n (put_first f n xs)) p 0 ≡ f (owner s cols p) p
      go (yes k) before = put_other s cols n _ (put_first f n xs) p h' (λ e. omega arith) ∙ before k
      go (no k) before =
          let e : owner s cols p ≡ n = omega arith in
          own_value (f n) n (put_first f n xs) p h' e ∙ ap (λ (q : ℕ). f q p) (sym e)

  -- all of them
  all_parts : (f : ℕ → ℕ → ℕ) (rows : ℕ) (xs : List ℕ) → length xs ≡ rows * s * (s * cols)
      → put_first f (rows * cols) xs ≡ values_from (λ p. f (owner s cols p) p) (rows * s * (s * cols)) 0
  all_parts f rows xs e =
      let m : ℕ = rows * s * (s * cols) in
      ext_get_or 0 _ _ (length_first f (rows * cols) xs ∙ e ∙ sym (length_values _ m 0)) (λ p l.
      let h : p < length xs = rw length_first at l in
      let k : p < m = omega arith in
      first_at f (rows * cols) xs p h (owner_in s cols some wide rows p k)
      ∙ sym (value_at (λ p. f (owner s cols p) p) m 0 p 0 k ∙ ap (λ (i : ℕ). f (owner s cols i) i) (zero-add p)))

-- the whole, by one vector
pub whole-moved : (c : Canvas) (x y : ℕ) (v : Svq1Mv) (xs : List ℕ) → length xs ≡ 256 → moved_part c x y v 16 1 0 xs ≡ moved_block c 16 x y v
unfolding moved_part moved_block put_first
whole-moved c x y v xs e = all_parts 16 1 (omega arith) (omega arith) (λ q. moved_sample c 16 x y v) 1 xs e

-- its quarters, by four
pub four_moved : (c : Canvas) (x y : ℕ) (a b d e : Svq1Mv) (xs : List ℕ) → length xs ≡ 256
    → moved_part c x y e 8 2 3 (moved_part c x y d 8 2 2 (moved_part c x y b 8 2 1 (moved_part c x y a 8 2 0 xs)))
    ≡ values_from (λ j. moved_sample c 16 x y (get_or (a ∷ b ∷ d ∷ e ∷ []) (j / 16 / 8 * 2 + j % 16 / 8) zero_mv) j) 256 0
unfolding moved_part put_first owner
four_moved c x y a b d e xs h =
    all_parts 8 2 (omega arith) (omega arith) (λ q. moved_sample c 16 x y (get_or (a ∷ b ∷ d ∷ e ∷ []) q zero_mv)) 2 xs h
