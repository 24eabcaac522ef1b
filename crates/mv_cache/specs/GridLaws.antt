-- Laws of a plane as a grid: a macroblock's entries after it, or another, was written; slices that agree on the macroblocks before one.
-- Assumes nothing.
use Rattle.std.specs.Prelude.{◌≡◌, eqb, length, take, drop}
use Rattle.std.proofs.Math.Path.{refl, ap}
use Rattle.std.proofs.Common.{sym, ◌∙◌, arith, div-lt_iff_lt-mul, add-suc, suc-add, div-add-mod', length-drop, ext_get_or, length-take-le, get_or-take, get_or-drop, eq-eqb, ne_eqb}
use Prim.Native.Nat.{ℕ, zero, suc, ◌+◌, ◌*◌, ◌/◌, ◌%◌, ◌≤◌, ◌<◌}
use Rattle.std.proofs.Math.Nat.{mod-lt, mul_comm, zero-add, add-zero, mul-pos, lt_of_mul-lt-mul_right}
use Rattle.std.proofs.Math.Decide.{dec_lt}
use mathlib.Core.List.{List, [], ◌∷◌}
use Rattle.std.proofs.Math.ListN.{get_or}
use Rattle.std.proofs.Math.Arith.{digits_lt, digits_div, digits_mod}
use Rattle.bits.specs.Basics.{pick}
use Rattle.bits.specs.BasicsLaws.{length_values, value_at}
use Rattle.mv_cache.specs.Grid.{owner, place_in, entry_of, part, put_from, put_part}

-- the entry at a row and a column
abbrev pub entry : ℕ → ℕ → ℕ → ℕ → ℕ
entry s cols row col = row * (s * cols) + col

module _ (s cols : ℕ) where
  length_put_from : (k : ℕ) (v : List ℕ) (p : ℕ) (xs : List ℕ) → length (put_from s cols k v p xs) ≡ length xs
  unfolding put_from
  length_put_from k v p [] = refl
  length_put_from k v p (x ∷ xs) = ap suc (length_put_from k v (suc p) xs)

  put_from_lem : (k : ℕ) (v : List ℕ) (p : ℕ) (xs : List ℕ) (j : ℕ) → j < length xs
      → get_or (put_from s cols k v p xs) j 0 ≡ pick (eqb (owner s cols (p + j)) k) (get_or v (place_in s cols (p + j)) 0) (get_or xs j 0)
  unfolding put_from
  put_from_lem k v p [] j h = absurd (omega arith)
  put_from_lem k v p (x ∷ xs) zero h = rw add-zero
  put_from_lem k v p (x ∷ xs) (suc j) h = rw (add-suc, ← suc-add) (put_from_lem k v (suc p) xs j (omega arith))

  pub length_put : (k : ℕ) (v xs : List ℕ) → length (put_part s cols k v xs) ≡ length xs
  unfolding put_part
  length_put k v xs = length_put_from k v 0 xs

  put_at : (k : ℕ) (v xs : List ℕ) (j : ℕ) → j < length xs
      → get_or (put_part s cols k v xs) j 0 ≡ pick (eqb (owner s cols j) k) (get_or v (place_in s cols j) 0) (get_or xs j 0)
  unfolding put_part
  put_at k v xs j h = rw zero-add at (put_from_lem k v 0 xs j h)

  -- an entry of macroblock k, and one of another
  pub put_own : (k : ℕ) (v xs : List ℕ) (j : ℕ) → j < length xs → owner s cols j ≡ k → get_or (put_part s cols k v xs) j 0 ≡ get_or v (place_in s cols j) 0
  put_own k v xs j h e = put_at k v xs j h ∙ rw (eq-eqb (owner s cols j) k e)

  pub put_other : (k : ℕ) (v xs : List ℕ) (j : ℕ) → j < length xs → (owner s cols j ≡ k → ⊥) → get_or (put_part s cols k v xs) j 0 ≡ get_or xs j 0
  put_other k v xs j h e = put_at k v xs j h ∙ rw (ne_eqb (owner s cols j) k e)

  -- two slices agree on the macroblocks before k
  abbrev pub Agree : ℕ → List ℕ → List ℕ → Type 0
  Agree k a b = (j : ℕ) → owner s cols j < k → get_or a j 0 ≡ get_or b j 0

  -- every entry of the first k macroblocks lies in the slice
  abbrev pub HoldsBlocks : ℕ → List ℕ → Type 0
  HoldsBlocks k a = (j : ℕ) → owner s cols j < k → j < length a

  pub agree_put : (k : ℕ) (v a b : List ℕ) → HoldsBlocks (suc k) a → HoldsBlocks (suc k) b → Agree k a b
      → Agree (suc k) (put_part s cols k v a) (put_part s cols k v b)
  agree_put k v a b ha hb e j h = go (dec_lt (owner s cols j) k)
    where
      go : Dec (owner s cols j < k) → get_or (put_part s cols k v a) j 0 ≡ get_or (put_part s cols k v b) j 0
      go (yes l) =
          let no_own : owner s cols j ≡ k → ⊥ = λ q. omega arith in
          put_other k v a j (ha j h) no_own ∙ e j l ∙ sym (put_other k v b j (hb j h) no_own)
      go (no l) =
          let own : owner s cols j ≡ k = omega arith in
          put_own k v a j (ha j h) own ∙ sym (put_own k v b j (hb j h) own)

  -- geometry
  pub owner-entry : (row col : ℕ) → col < s * cols → owner s cols (entry s cols row col) ≡ row / s * cols + col / s
  unfolding owner
  owner-entry row col h = rw (digits_div row h, digits_mod row h)

  pub place-entry : (row col : ℕ) → col < s * cols → place_in s cols (entry s cols row col) ≡ row % s * s + col % s
  unfolding place_in
  place-entry row col h = rw (digits_div row h, digits_mod row h)

module _ (s cols : ℕ) (some : 0 < s) (wide : 0 < cols) where
  col_lt : (k j : ℕ) → k % cols * s + j % s < s * cols
  col_lt k j = rw (mul_comm s cols) (digits_lt (mod-lt k wide) (mod-lt j some))

  pub owner_of : (k j : ℕ) → j < s * s → owner s cols (entry_of s cols k j) ≡ k
  owner_of k j h =
      let q : j / s < s = (div-lt_iff_lt-mul some).1 h in
      owner-entry s cols (k / cols * s + j / s) (k % cols * s + j % s) (col_lt k j)
      ∙ rw (digits_div (k / cols) q, digits_div (k % cols) (mod-lt j some)) (div-add-mod' k cols)

  pub place_of : (k j : ℕ) → j < s * s → place_in s cols (entry_of s cols k j) ≡ j
  place_of k j h =
      let q : j / s < s = (div-lt_iff_lt-mul some).1 h in
      place-entry s cols (k / cols * s + j / s) (k % cols * s + j % s) (col_lt k j)
      ∙ rw (digits_mod (k / cols) q, digits_mod (k % cols) (mod-lt j some)) (div-add-mod' j s)

  -- the entries of a plane of rows × cols macroblocks are those before its end
  pub owner_in : (rows j : ℕ) → j < rows * s * (s * cols) → owner s cols j < rows * cols
  unfolding owner
  owner_in rows j h =
      let w : 0 < s * cols = mul-pos some wide in
      let q : j / (s * cols) / s < rows = (div-lt_iff_lt-mul some).1 ((div-lt_iff_lt-mul w).1 h) in
      let r : j % (s * cols) / s < cols = (div-lt_iff_lt-mul some).1 (omega (arith, mod-lt j w, mul_comm s cols)) in
      digits_lt q r

  pub in_owner : (rows j : ℕ) → owner s cols j < rows * cols → j < rows * s * (s * cols)
  unfolding owner
  in_owner rows j h =
      let w : 0 < s * cols = mul-pos some wide in
      let q : j / (s * cols) / s < rows = lt_of_mul-lt-mul_right cols (omega arith) in
      (div-lt_iff_lt-mul w).0 ((div-lt_iff_lt-mul some).0 q)

module _ (s cols : ℕ) (some : 0 < s) (wide : 0 < cols) where
  pub length_part : (k : ℕ) (xs : List ℕ) → length (part s cols k xs) ≡ s * s
  unfolding part
  length_part k xs = length_values _ (s * s) 0

  pub part_at : (k : ℕ) (xs : List ℕ) (j : ℕ) → j < s * s → get_or (part s cols k xs) j 0 ≡ get_or xs (entry_of s cols k j) 0
  unfolding part
  part_at k xs j h = value_at (λ i. get_or xs (entry_of s cols k i) 0) (s * s) 0 j 0 h ∙ rw zero-add

  -- macroblock k after it was written, and after another was
  pub part_own : (k : ℕ) (v xs : List ℕ) → HoldsBlocks s cols (suc k) xs → length v ≡ s * s → part s cols k (put_part s cols k v xs) ≡ v
  part_own k v xs h e =
      ext_get_or 0 _ v (length_part k _ ∙ sym e) (λ j l.
      let m : j < s * s = rw length_part at l in
      let o : owner s cols (entry_of s cols k j) ≡ k = owner_of s cols some wide k j m in
      part_at k _ j m ∙ put_own s cols k v xs (entry_of s cols k j) (h _ (omega arith)) o
      ∙ ap (λ (i : ℕ). get_or v i 0) (place_of s cols some wide k j m))

  pub part_other : (k i : ℕ) (v xs : List ℕ) → HoldsBlocks s cols (suc k) xs → k < i → part s cols k (put_part s cols i v xs) ≡ part s cols k xs
  part_other k i v xs h e =
      ext_get_or 0 _ _ (length_part k _ ∙ sym (length_part k xs)) (λ j l.
      let m : j < s * s = rw length_part at l in
      let o : owner s cols (entry_of s cols k j) ≡ k = owner_of s cols some wide k j m in
      part_at k _ j m ∙ put_other s cols i v xs (entry_of s cols k j) (h _ (omega arith)) (λ q. omega arith) ∙ sym (part_at k xs j m))

  -- two slices that agree on a whole plane
  module _ (rows : ℕ) (a b : List ℕ) (same : Agree s cols (rows * cols) a b) where
    pub agree_whole : length a ≡ rows * s * (s * cols) → length b ≡ rows * s * (s * cols) → a ≡ b
    agree_whole ha hb = ext_get_or 0 a b (ha ∙ sym hb) (λ j l. same j (owner_in s cols some wide rows j (omega arith)))

    pub agree_take : (m : ℕ) → m ≡ rows * s * (s * cols) → m ≤ length a → m ≤ length b → take m a ≡ take m b
    agree_take m e ha hb =
        ext_get_or 0 (take m a) (take m b) (length-take-le m a ha ∙ sym (length-take-le m b hb)) (λ j l.
        let i : j < m = rw (length-take-le m a ha) at l in
        get_or-take m a j 0 i ∙ same j (owner_in s cols some wide rows j (omega arith)) ∙ sym (get_or-take m b j 0 i))

  -- writing a macroblock of the plane leaves what lies past the plane
  pub put_past : (rows k m : ℕ) (v xs : List ℕ) → k < rows * cols → m ≡ rows * s * (s * cols) → drop m (put_part s cols k v xs) ≡ drop m xs
  put_past rows k m v xs h e =
      ext_get_or 0 _ _ (simp (length-drop, length_put)) (λ j l.
      let i : m + j < length xs = omega (arith, simp (length-drop, length_put) at l) in
      get_or-drop m _ j 0
      ∙ put_other s cols k v xs (m + j) i (λ q. let z : m + j < rows * s * (s * cols) = in_owner s cols some wide rows (m + j) (omega arith) in omega arith)
      ∙ sym (get_or-drop m xs j 0))
