-- Laws of a macroblock's target as the code makes it, row by row.
-- Assumes nothing.
use Rattle.std.specs.Prelude.{◌≡◌, List, length, set}
use Rattle.std.proofs.Math.Path.{refl, sym, ap}
use Rattle.std.proofs.Common.{◌∙◌, div-lt_iff_lt-mul, zero-add, get_or-set_same}
use Prim.Native.Nat.{ℕ, zero, suc, ◌+◌, ◌-◌, ◌*◌, ◌/◌, ◌%◌, ◌≤◌, ◌<◌, min}
use native.Mathlib.Omega.{arith}
use Rattle.std.proofs.Math.Nat.{mod-lt}
use Rattle.std.proofs.Math.Decide.{dec_lt, ℕ_discrete}
use Rattle.std.proofs.Math.ListN.{get_or, length-set}
use Rattle.std.proofs.Math.Seq.{ext_get_or, get_or-set_other}
use Rattle.bits.specs.BasicsLaws.{length_values, value_at}
use Rattle.mv_cache.specs.Grid.{row_set, entry_of, part}
use Rattle.mv_cache.specs.PutLaws.{row_same}
use Rattle.compensation.specs.MovedFormsLaws.{place_in}
use Rattle.canvas.specs.Canvas.{largest_side, blocks_along}
use Rattle.macroblock.specs.Choice.{padded_source, target_of}
use Rattle.macroblock.specs.SourceLaws.{padded_at_lem}
use Rattle.macroblock_search.specs.TargetForms.{target_sample, Sources, RowsFilled}

-- ---- a row written into a list
module _ (o : ℕ) (f : ℕ → ℕ) where
  pub row_length : (n : ℕ) (xs : List ℕ) → length (row_set o f n xs) ≡ length xs
  unfolding row_set
  row_length zero xs = refl
  row_length (suc n) xs = length-set (row_set o f n xs) (o + n) (f n) ∙ row_length n xs

  row_before : (n : ℕ) (xs : List ℕ) (p : ℕ) → p < o → get_or (row_set o f n xs) p 0 ≡ get_or xs p 0
  unfolding row_set
  row_before zero xs p h = refl
  row_before (suc n) xs p h = get_or-set_other (row_set o f n xs) (o + n) p (f n) 0 (λ q. omega arith) ∙ row_before n xs p h

  row_there : (n : ℕ) (xs : List ℕ) (j : ℕ) → j < n → o + n ≤ length xs → get_or (row_set o f n xs) (o + j) 0 ≡ f j
  unfolding row_set
  row_there zero xs j h l = absurd (omega arith)
  row_there (suc n) xs j h l = go (ℕ_discrete j n) (λ k. row_there n xs j k (omega arith))
    where
      go : Dec (j ≡ n) → (j < n → get_or (row_set o f n xs) (o + j) 0 ≡ f j) → get_or (set (row_set o f n xs) (o + n) (f n)) (o + j) 0 ≡ f j
      go (yes e) k = rw e (get_or-set_same (row_set o f n xs) (o + n) (f n) 0 (rw (row_length n xs) (omega arith)))
      go (no e) k = get_or-set_other (row_set o f n xs) (o + n) (o + j) (f n) 0 (λ q. e (omega arith)) ∙ k (omega arith)

-- a row whose columns all lie in the source, and one that repeats the last
pub row_inside : (source xs : List ℕ) (o p x last : ℕ) → x + 15 ≤ last
    → row_set o (λ j. get_or source (p + x + j) 0) 16 xs ≡ row_set o (λ j. get_or source (p + min (x + j) last) 0) 16 xs
row_inside source xs o p x last h =
    row_same o (λ j. get_or source (p + x + j) 0) (λ j. get_or source (p + min (x + j) last) 0) 16 xs (λ j l. ap (λ (i : ℕ). get_or source i 0) (omega arith))

-- ---- the rows one after the other
module _ (width height : ℕ) (source : List ℕ) (k : ℕ) (s : Sources width height source k) where
  pub wide : 0 < blocks_along width
  wide = omega (arith, s.width_some)

  pub left_most : k % blocks_along width * 16 ≤ largest_side
  left_most = omega (arith, s.width_most, mod-lt k wide)

  pub top_most : k / blocks_along width * 16 ≤ largest_side
  top_most =
      let q : k / blocks_along width < blocks_along height = (div-lt_iff_lt-mul wide).1 s.number in
      omega (arith, s.height_most)

  pub row_in : (y : ℕ) → y ≤ height - 1 → y * width + (width - 1) < length source
  row_in y h = rw s.samples (place_in (width - 1) y width height (omega (arith, s.width_some)) (omega (arith, s.height_some)))

  pub filled_none : (out : List ℕ) → length out ≡ 256 → RowsFilled (target_sample width height source k) (16 * 0) out
  filled_none out e = record { whole = e; same = λ j h. absurd (omega arith) }

  sample_in_row : (i j : ℕ) → j < 16
      → get_or source (min (k / blocks_along width * 16 + i) (height - 1) * width + min (k % blocks_along width * 16 + j) (width - 1)) 0
      ≡ target_sample width height source k (16 * i + j)
  unfolding target_sample
  sample_in_row i j h =
      let q : (16 * i + j) / 16 ≡ i = omega arith in
      let r : (16 * i + j) % 16 ≡ j = omega arith in
      rw (q, r)

  -- row i
  pub filled_row : (i x y cols row : ℕ) (out new : List ℕ) → i < 16 → cols ≡ blocks_along width → x ≡ k % cols * 16 → y ≡ k / cols * 16 → row ≡ min (y + i) (height - 1)
      → RowsFilled (target_sample width height source k) (16 * i) out
      → new ≡ row_set (16 * i) (λ j. get_or source (row * width + min (x + j) (width - 1)) 0) 16 out
      → RowsFilled (target_sample width height source k) (16 * (i + 1)) new
  filled_row i x y cols row out new h ec ex ey er f e =
      let g : ℕ → ℕ = λ j. get_or source (row * width + min (x + j) (width - 1)) 0 in
      let l : length new ≡ 256 = ap length e ∙ row_length (16 * i) g 16 out ∙ f.whole in
      record { whole = l; same = λ j b. go j b (dec_lt j (16 * i)) }
    where
      g : ℕ → ℕ
      g j = get_or source (row * width + min (x + j) (width - 1)) 0

      there : (j : ℕ) → j < 16 → g j ≡ target_sample width height source k (16 * i + j)
      there j b = rw (er, ex, ey, ec) (sample_in_row i j b)

      go : (j : ℕ) → j < 16 * (i + 1) → Dec (j < 16 * i) → get_or new j 0 ≡ target_sample width height source k j
      go j b (yes m) = ap (λ (xs : List ℕ). get_or xs j 0) e ∙ row_before (16 * i) g 16 out j m ∙ f.same j m
      go j b (no m) =
          let q : j ≡ 16 * i + (j - 16 * i) = omega arith in
          let a : j - 16 * i < 16 = omega arith in
          let w : 16 * i + 16 ≤ length out = omega (arith, f.whole) in
          let z : get_or new (16 * i + (j - 16 * i)) 0 ≡ target_sample width height source k (16 * i + (j - 16 * i)) =
          ap (λ (xs : List ℕ). get_or xs (16 * i + (j - 16 * i)) 0) e ∙ row_there (16 * i) g 16 out (j - 16 * i) a w ∙ there (j - 16 * i) a in
          rw (← q) at z

  -- a sample of the padded source
  sample_is : (j : ℕ) → j < 256 → get_or (padded_source width height source) (entry_of 16 (blocks_along width) k j) 0 ≡ target_sample width height source k j
  unfolding target_sample
  sample_is j h =
      let q : k / blocks_along width < blocks_along height = (div-lt_iff_lt-mul wide).1 s.number in
      padded_at_lem width height source (k % blocks_along width * 16 + j % 16) (k / blocks_along width * 16 + j / 16) (omega (arith, mod-lt k wide)) (omega arith)

  pub filled_all : (i : ℕ) (out : List ℕ) → 16 ≤ i → RowsFilled (target_sample width height source k) (16 * i) out → out ≡ target_of width height source k
  unfolding target_of part
  filled_all i out h f =
      let at : ℕ → ℕ = λ j. get_or (padded_source width height source) (entry_of 16 (blocks_along width) k j) 0 in
      ext_get_or 0 out _ (f.whole ∙ sym (length_values _ 256 0)) (λ j l.
      let m : j < 256 = omega (arith, f.whole) in
      f.same j (omega arith) ∙ sym (value_at at 256 0 j 0 m ∙ ap at (zero-add j) ∙ sample_is j m))

pub target_long : (width height : ℕ) (source : List ℕ) (k : ℕ) → length (target_of width height source k) ≡ 256
unfolding target_of part
target_long width height source k = length_values _ 256 0
