-- Writing a macroblock's entries one after the other is putting it: the laws for loops, over the side.
-- Assumes nothing.
use Rattle.std.specs.Prelude.{◌≡◌, List, length, take, drop, get_or, set}
use Rattle.std.proofs.Math.Path.{refl, sym}
use Rattle.std.proofs.Common.{ap, ap₂, ◌∙◌, div-lt_iff_lt-mul, mul-le-mul, le_refl, add-zero, add-mul, one-mul, add-one, length-set, length-drop, ext_get_or, get_or-set_same, get_or-drop}
use Prim.Native.Nat.{ℕ, zero, suc, ◌+◌, ◌-◌, ◌*◌, ◌/◌, ◌%◌, ◌≤◌, ◌<◌}
use native.Mathlib.Omega.{arith}
use Rattle.std.proofs.Math.Nat.{mod-lt, mul_comm, mul-pos, div-add-mod'}
use Rattle.std.proofs.Math.Decide.{ℕ_discrete}
use Rattle.std.proofs.Math.Seq.{get_or-set_other}
use Rattle.std.proofs.lemmas.List.Edits.{sets}
use Rattle.std.proofs.Math.Arith.{digits_lt, digits_div, digits_mod}
use Rattle.bits.specs.FillLaws.{row_step, run, run_of}
use Rattle.mv_cache.specs.Grid.{row_set, owner, place_in, entry_of, put_part}
use Rattle.mv_cache.specs.GridLaws.{HoldsBlocks, length_put, put_own, put_other, owner_of, place_of}

-- macroblock k's first m entries written, one after the other
unfoldable pub put_to : ℕ → ℕ → ℕ → List ℕ → ℕ → List ℕ → List ℕ
put_to s cols k v zero xs = xs
put_to s cols k v (suc m) xs = set (put_to s cols k v m xs) (entry_of s cols k m) (get_or v m 0)

pub put_none : (s cols k : ℕ) (v xs : List ℕ) → xs ≡ put_to s cols k v 0 xs
unfolding put_to
put_none s cols k v xs = refl

pub put_more : (s cols k : ℕ) (v : List ℕ) (m w : ℕ) (xs ys : List ℕ) → ys ≡ put_to s cols k v m xs → w ≡ get_or v m 0
    → set ys (entry_of s cols k m) w ≡ put_to s cols k v (m + 1) xs
unfolding put_to
put_more s cols k v m w xs ys e q = rw (e, q, add-one m)

pub length_to : (s cols k : ℕ) (v : List ℕ) (m : ℕ) (xs : List ℕ) → length (put_to s cols k v m xs) ≡ length xs
unfolding put_to
length_to s cols k v zero xs = refl
length_to s cols k v (suc m) xs = length-set (put_to s cols k v m xs) _ _ ∙ length_to s cols k v m xs

-- the numbers that the place of macroblock k's entry j is computed by, below n
pub record Steps (s cols k j n : ℕ) : Type 0 where
  pub row : k / cols * s + j / s < n
  pub rows : (k / cols * s + j / s) * (s * cols) < n
  pub col : k % cols * s + j % s < n
  pub all : entry_of s cols k j < n

-- and its row i's first place, with the row's end
pub record RowSteps (s cols k i n : ℕ) : Type 0 where
  pub row : k / cols * s + i < n
  pub rows : (k / cols * s + i) * (s * cols) < n
  pub col : k % cols * s < n
  pub all : (k / cols * s + i) * (s * cols) + k % cols * s + s ≤ n
  pub own : s * i + s ≤ s * s

module _ (s cols : ℕ) (some : 0 < s) (wide : 0 < cols) where
  -- an entry is the one of its macroblock at its place
  pub entry_back : (p : ℕ) → entry_of s cols (owner s cols p) (place_in s cols p) ≡ p
  unfolding owner place_in
  entry_back p =
      let w : 0 < s * cols = mul-pos some wide in
      let c : p % (s * cols) / s < cols = (div-lt_iff_lt-mul some).1 (omega (arith, mod-lt p w, mul_comm s cols)) in
      rw (
        digits_div (p / (s * cols) / s) c,
        digits_mod (p / (s * cols) / s) c,
        digits_div (p / (s * cols) % s) (mod-lt (p % (s * cols)) some),
        digits_mod (p / (s * cols) % s) (mod-lt (p % (s * cols)) some),
        div-add-mod' (p / (s * cols)) s,
        div-add-mod' (p % (s * cols)) s,
      )
      (div-add-mod' p (s * cols))

  pub place_lt : (p : ℕ) → place_in s cols p < s * s
  unfolding place_in
  place_lt p = digits_lt (mod-lt (p / (s * cols)) some) (mod-lt (p % (s * cols)) some)

  -- a macroblock's entries lie in a slice that holds it
  pub entry_in : (k j : ℕ) (xs : List ℕ) → HoldsBlocks s cols (suc k) xs → j < s * s → entry_of s cols k j < length xs
  entry_in k j xs h l = h _ (omega (arith, owner_of s cols some wide k j l))

  -- and so do the numbers that its place is computed by
  pub entry_steps : (k j : ℕ) (xs : List ℕ) → HoldsBlocks s cols (suc k) xs → j < s * s → Steps s cols k j (length xs)
  entry_steps k j xs h l =
      let e = entry_in k j xs h l in
      let w : 1 ≤ s * cols = mul-pos some wide in
      let m : (k / cols * s + j / s) * 1 ≤ (k / cols * s + j / s) * (s * cols) = mul-le-mul (le_refl (k / cols * s + j / s)) w in
      record { row = omega arith; rows = omega arith; col = omega arith; all = e }

  module _ (k : ℕ) (v : List ℕ) where
    -- another macroblock's entry
    other : (m : ℕ) (xs : List ℕ) (p : ℕ) → m ≤ s * s → (owner s cols p ≡ k → ⊥) → get_or (put_to s cols k v m xs) p 0 ≡ get_or xs p 0
    unfolding put_to
    other zero xs p l h = refl
    other (suc m) xs p l h =
        get_or-set_other (put_to s cols k v m xs) (entry_of s cols k m) p _ 0 (λ q. h (ap (owner s cols) q ∙ owner_of s cols some wide k m (omega arith)))
        ∙ other m xs p (omega arith) h

    -- its own, written once its place is passed
    own : (m : ℕ) (xs : List ℕ) (p : ℕ) → m ≤ s * s → p < length xs → owner s cols p ≡ k → place_in s cols p < m
        → get_or (put_to s cols k v m xs) p 0 ≡ get_or v (place_in s cols p) 0
    unfolding put_to
    own zero xs p l lp h hp = absurd (omega arith)
    own (suc m) xs p l lp h hp = go (ℕ_discrete (place_in s cols p) m) (own m xs p (omega arith) lp h)
      where
        here : p ≡ entry_of s cols k (place_in s cols p)
        here = sym (ap (λ (i : ℕ). entry_of s cols i (place_in s cols p)) (sym h) ∙ entry_back p)

        go : Dec (place_in s cols p ≡ m) → (place_in s cols p < m → get_or (put_to s cols k v m xs) p 0 ≡ get_or v (place_in s cols p) 0)
            → get_or (set (put_to s cols k v m xs) (entry_of s cols k m) (get_or v m 0)) p 0 ≡ get_or v (place_in s cols p) 0
        go (yes e) f =
            let q : entry_of s cols k m ≡ p = sym (here ∙ ap (entry_of s cols k) e) in
            rw (q, e) (get_or-set_same (put_to s cols k v m xs) p (get_or v m 0) 0 (rw (length_to s cols k v m xs) lp))
        go (no e) f =
            get_or-set_other (put_to s cols k v m xs) (entry_of s cols k m) p _ 0 (λ q. e (ap (place_in s cols) q ∙ place_of s cols some wide k m (omega arith)))
            ∙ f (omega arith)

    pub put_all : (xs : List ℕ) → put_to s cols k v (s * s) xs ≡ put_part s cols k v xs
    put_all xs =
        ext_get_or 0 _ _ (length_to s cols k v (s * s) xs ∙ sym (length_put s cols k v xs)) (λ p l.
        let lp : p < length xs = rw length_to at l in
        each p lp (ℕ_discrete (owner s cols p) k))
      where
        each : (p : ℕ) → p < length xs → Dec (owner s cols p ≡ k) → get_or (put_to s cols k v (s * s) xs) p 0 ≡ get_or (put_part s cols k v xs) p 0
        each p lp (yes e) = own (s * s) xs p (omega arith) lp e (place_lt p) ∙ sym (put_own s cols k v xs p lp e)
        each p lp (no e) = other (s * s) xs p (omega arith) e ∙ sym (put_other s cols k v xs p lp e)

-- ---- a row set, one entry after the other
pub row_none : (o : ℕ) (f : ℕ → ℕ) (xs : List ℕ) → xs ≡ row_set o f 0 xs
unfolding row_set
row_none o f xs = refl

pub row_more : (o : ℕ) (f : ℕ → ℕ) (i w : ℕ) (xs ys : List ℕ) → ys ≡ row_set o f i xs → w ≡ f i → set ys (o + i) w ≡ row_set o f (i + 1) xs
unfolding row_set
row_more o f i w xs ys e q = rw (e, q, add-one i)

-- a part of a slice written there
row_run : (o p n : ℕ) (v xs : List ℕ) → p + n ≤ length v → sets xs o (take n (drop p v)) ≡ row_set o (λ j. get_or v (p + j) 0) n xs
unfolding row_set
row_run o p zero v xs h = refl
row_run o p (suc n) v xs h =
    let k : n < length (drop p v) = simp length-drop (omega arith) in
    rw (← add-one n, ← row_step xs (drop p v) o n k, row_run o p n v xs (omega arith), get_or-drop p v n 0) refl

pub row_part : (o p n : ℕ) (v xs : List ℕ) → p + n ≤ length v → sets xs o (run_of v p n) ≡ row_set o (λ j. get_or v (p + j) 0) n xs
row_part o p n v xs h = rw (run v p n) (row_run o p n v xs h)

pub row_same : (o : ℕ) (f g : ℕ → ℕ) (n : ℕ) (xs : List ℕ) → ((k : ℕ) → k < n → f k ≡ g k) → row_set o f n xs ≡ row_set o g n xs
unfolding row_set
row_same o f g zero xs h = refl
row_same o f g (suc n) xs h = ap₂ (λ (ys : List ℕ) (w : ℕ). set ys (o + n) w) (row_same o f g n xs (λ k l. h k (omega arith))) (h n (omega arith))

-- where the row's places are a part's
pub row_to_lem : (s cols q : ℕ) (v : List ℕ) (o m : ℕ) (f : ℕ → ℕ) (n : ℕ) (xs : List ℕ) → ((k : ℕ) → k < n → entry_of s cols q (m + k) ≡ o + k)
    → ((k : ℕ) → k < n → f k ≡ get_or v (m + k) 0) → row_set o f n (put_to s cols q v m xs) ≡ put_to s cols q v (m + n) xs
unfolding row_set put_to
row_to_lem s cols q v o m f zero xs p h = ap (λ (i : ℕ). put_to s cols q v i xs) (sym (add-zero m))
row_to_lem s cols q v o m f (suc n) xs p h =
    let e : m + suc n ≡ suc (m + n) = omega arith in
    let r = row_to_lem s cols q v o m f n xs (λ k l. p k (omega arith)) (λ k l. h k (omega arith)) in
    rw (e, r, h n (omega arith), p n (omega arith)) refl

-- ---- a macroblock, row by row
module _ (s cols k : ℕ) where
  -- place j of row i
  pub along : (i j : ℕ) → j < s → ((s * i + j) / s ≡ i) × ((s * i + j) % s ≡ j)
  along i j h =
      let e : s * i + j ≡ i * s + j = omega (arith, mul_comm s i) in
      (ap (λ (n : ℕ). n / s) e ∙ digits_div i h, ap (λ (n : ℕ). n % s) e ∙ digits_mod i h)

  pub entry_along : (i j : ℕ) → j < s → entry_of s cols k (s * i + j) ≡ (k / cols * s + i) * (s * cols) + k % cols * s + j
  entry_along i j h = let a = along i j h in rw (a.0, a.1) (omega arith)

  pub row_below : (i j : ℕ) → i < s → j < s → s * i + j < s * s
  row_below i j h l = let e : i * s + j < s * s = digits_lt h l in omega (arith, mul_comm s i)

  module _ (some : 0 < s) (wide : 0 < cols) where
    -- the numbers that row i's first place is computed by, and its end, in a slice that holds the macroblock
    pub row_steps : (xs : List ℕ) → HoldsBlocks s cols (suc k) xs → (i : ℕ) → i < s → RowSteps s cols k i (length xs)
    row_steps xs h i l =
        let a = along i 0 some in
        let first = entry_steps s cols some wide k (s * i + 0) xs h (row_below i 0 l some) in
        let z : s - 1 < s = omega arith in
        let e = entry_along i (s - 1) z in
        let last = entry_in s cols some wide k (s * i + (s - 1)) xs h (row_below i (s - 1) l z) in
        record {
          row = rw a.0 at first.row;
          rows = rw a.0 at first.rows;
          col = omega (arith, first.col);
          all = omega (arith, e, last);
          own = omega (arith, row_below i (s - 1) l z);
        }

    pub rows_none : (v xs : List ℕ) → xs ≡ put_to s cols k v (s * 0) xs
    unfolding put_to
    rows_none v xs = let e : s * 0 ≡ 0 = mul_comm s 0 ∙ omega arith in rw e refl

    pub rows_more : (v : List ℕ) (i : ℕ) (xs ys zs : List ℕ) → ys ≡ put_to s cols k v (s * i) xs
        → zs ≡ row_set ((k / cols * s + i) * (s * cols) + k % cols * s) (λ j. get_or v (s * i + j) 0) s ys → zs ≡ put_to s cols k v (s * (i + 1)) xs
    rows_more v i xs ys zs e f =
        let o : ℕ = (k / cols * s + i) * (s * cols) + k % cols * s in
        let step : s * i + s ≡ s * (i + 1) = simp (mul_comm s, add-mul, one-mul) in
        f ∙ ap (row_set o (λ j. get_or v (s * i + j) 0) s) e ∙ row_to_lem s cols k v o (s * i) (λ j. get_or v (s * i + j) 0) s xs (λ j l. entry_along i j l) (λ j l. refl)
        ∙ ap (λ (m : ℕ). put_to s cols k v m xs) step

    pub rows_all : (v : List ℕ) (i : ℕ) (xs ys : List ℕ) → i ≡ s → ys ≡ put_to s cols k v (s * i) xs → ys ≡ put_part s cols k v xs
    rows_all v i xs ys e f = f ∙ ap (λ (m : ℕ). put_to s cols k v (s * m) xs) e ∙ put_all s cols some wide k v xs
