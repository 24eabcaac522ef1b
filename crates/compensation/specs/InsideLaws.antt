-- Laws of a part that is read inside the canvas, row by row: it is the part of the definition.
-- Assumes nothing.
use Rattle.std.specs.Prelude.{ℕ, ◌+◌, ◌-◌, ◌*◌, ◌/◌, ◌%◌, ◌<◌, ◌≤◌, ◌≡◌, true, leb, pos, ◌+ℤ◌, length, get_or}
use Rattle.std.proofs.Math.Path.{refl, sym, ap}
use Rattle.std.proofs.Common.{ap₂, ◌∙◌, mod-lt, div-lt_iff_lt-mul, add-mul, one-mul, ext_get_or}
use mathlib.Core.List.{List}
use native.Mathlib.Omega.{arith}
use Rattle.std.proofs.Math.Nat.{mul_comm, zero-add}
use Rattle.std.proofs.Math.Arith.{digits_lt, digits_div, digits_mod}
use borrow.Author.Tests.{leb-true, eq-eqb, ne_eqb}
use Rattle.bits.specs.Basics.{values_from}
use Rattle.bits.specs.BasicsLaws.{both_true, length_values, value_at}
use Rattle.canvas.specs.Canvas.{Canvas}
use Rattle.compensation.specs.Compensation.{mean2, mean4, half_sample, moved_sample}
use Rattle.mv_cache.specs.Grid.{row_set, entry_of, put_part}
use Rattle.mv_cache.specs.PutLaws.{put_to, put_all, row_same, row_to_lem, along, entry_along, row_below}
use Rattle.compensation.specs.RowForms.{cell}
use Rattle.compensation.specs.RowFormsLaws.{half_in, row_fits}
use Rattle.bits.specs.DifferenceLaws.{pos_sub, sub_pos}
use Rattle.compensation.specs.MovedForms.{moved_part, Parts, down, down_mv, InCanvas, cell_part, inside_up}
use Rattle.compensation.specs.MovedFormsLaws.{side_some, cols_some, part_steps}

-- ---- a row of cells, by the code's cases
module _ (c : Canvas) (ox oy o p n : ℕ) (xs : List ℕ) where
  pub cells_full : ox ≡ 0 → oy ≡ 0 → row_set o (λ k. get_or c.samples (p + k) 0) n xs ≡ row_set o (λ k. cell c ox oy (p + k)) n xs
  unfolding cell
  cells_full e f = row_same o _ _ n xs (λ k h. simp (eq-eqb ox 0 e, eq-eqb oy 0 f))

  pub cells_across : (ox ≡ 0 → ⊥) → oy ≡ 0
      → row_set o (λ k. mean2 (get_or c.samples (p + k) 0) (get_or c.samples (p + 1 + k) 0)) n xs ≡ row_set o (λ k. cell c ox oy (p + k)) n xs
  unfolding cell
  cells_across e f = row_same o _ _ n xs (λ k h. let q : p + 1 + k ≡ p + k + 1 = omega arith in simp (ne_eqb ox 0 e, eq-eqb oy 0 f, q))

  pub cells-down : ox ≡ 0 → (oy ≡ 0 → ⊥)
      → row_set o (λ k. mean2 (get_or c.samples (p + k) 0) (get_or c.samples (p + c.stride + k) 0)) n xs ≡ row_set o (λ k. cell c ox oy (p + k)) n xs
  unfolding cell
  cells-down e f = row_same o _ _ n xs (λ k h. let q : p + c.stride + k ≡ p + k + c.stride = omega arith in simp (eq-eqb ox 0 e, ne_eqb oy 0 f, q))

  pub cells_both : (ox ≡ 0 → ⊥) → (oy ≡ 0 → ⊥)
      → row_set o (λ k. mean4 (get_or c.samples (p + k) 0) (get_or c.samples (p + 1 + k) 0) (get_or c.samples (p + c.stride + k) 0) (get_or c.samples (p + c.stride + 1 + k) 0)) n xs
      ≡ row_set o (λ k. cell c ox oy (p + k)) n xs
  unfolding cell
  cells_both e f =
      row_same o _ _ n xs (λ k h.
      let q : p + c.stride + k ≡ p + k + c.stride = omega arith in
      let r : p + 1 + k ≡ p + k + 1 = omega arith in
      let s : p + c.stride + 1 + k ≡ p + k + c.stride + 1 = omega arith in
      simp (ne_eqb ox 0 e, ne_eqb oy 0 f, q, r, s))

-- ---- a part, row by row
module _ (c : Canvas) (ox oy x0 y0 s cols q : ℕ) (parts : Parts s cols q) where
  abbrev pub cell_values : List ℕ
  cell_values = values_from (λ j. cell c ox oy ((y0 + j / s) * c.stride + x0 + j % s)) (s * s) 0

  pub part_next : (i : ℕ) (xs ys zs : List ℕ) → i < s → ys ≡ put_to s cols q cell_values (s * i) xs
      → zs ≡ row_set ((q / cols * s + i) * (s * cols) + q % cols * s) (λ k. cell c ox oy ((y0 + i) * c.stride + x0 + k)) s ys
      → zs ≡ put_to s cols q cell_values (s * (i + 1)) xs
  part_next i xs ys zs h e f =
      let step : s * i + s ≡ s * (i + 1) = simp (mul_comm s, add-mul, one-mul) in
      f ∙ ap (row_set ((q / cols * s + i) * (s * cols) + q % cols * s) (λ k. cell c ox oy ((y0 + i) * c.stride + x0 + k)) s) e
      ∙ row_to_lem s cols q cell_values ((q / cols * s + i) * (s * cols) + q % cols * s) (s * i) (λ k. cell c ox oy ((y0 + i) * c.stride + x0 + k)) s xs
      (λ k l. entry_along s cols q i k l)
      (λ k l.
      let a = along s cols q i k l in
      sym
      (value_at (λ j. cell c ox oy ((y0 + j / s) * c.stride + x0 + j % s)) (s * s) 0 (s * i + k) 0 (row_below s cols q i k h l)
      ∙ ap (λ (j : ℕ). cell c ox oy ((y0 + j / s) * c.stride + x0 + j % s)) (zero-add (s * i + k)) ∙ rw (a.0, a.1) refl))
      ∙ ap (λ (m : ℕ). put_to s cols q cell_values m xs) step

  pub part-begin : (xs : List ℕ) → xs ≡ put_to s cols q cell_values (s * 0) xs
  unfolding put_to
  part-begin xs = let e : s * 0 ≡ 0 = mul_comm s 0 ∙ omega arith in rw e refl

  pub part_end : (xs : List ℕ) → put_to s cols q cell_values (s * s) xs ≡ cell_part c ox oy x0 y0 s cols q xs
  unfolding cell_part
  part_end xs = put_all s cols (side_some s cols q parts) (cols_some s cols q parts) q cell_values xs

  -- where row i is written, and where it is read
  pub row_place : (i : ℕ) → i < s → (q / cols * s + i) * (s * cols) + q % cols * s + s ≤ 256
  row_place i h =
      let l : s - 1 < s = omega (arith, side_some s cols q parts) in
      let e = entry_along s cols q i (s - 1) l in
      let b = (part_steps s cols q parts (s * i + (s - 1)) (row_below s cols q i (s - 1) h l)).all in
      omega arith

  pub row_first : (i : ℕ) → i < s → q / cols * s + i < 256
  row_first i h = let e : (q / cols * s + i) * 16 + q % cols * s + s ≤ 256 = rw parts.across at (row_place i h) in omega (arith, side_some s cols q parts)

  pub row_read : (i : ℕ) → i < s → InCanvas c s ox oy x0 y0 → (y0 + i) * c.stride + x0 + oy * c.stride + ox + s ≤ length c.samples
  row_read i h r = rw r.canvas_len (row_fits x0 y0 i c.stride c.rows s ox oy r.x_in r.y_in h)

-- ---- that part is the one of the definition
place_of : (a j u : ℕ) → 4294967296 ≤ 2 * a + u
    → pos (2 * (a + j)) +ℤ down u ≡ pos (2 * ((2 * a + u) / 2 - 2147483648 + j) + (2 * a + u) % 2)
place_of a j u h = pos_sub (2 * (a + j)) u 4294967296 ∙ sub_pos (2 * (a + j) + u) 4294967296 (omega arith) ∙ ap pos (omega arith)

pub record ReadsInside (h s size : ℕ) : Type 0 where
  pub low : 4294967296 ≤ h
  pub high : h / 2 - 2147483648 + h % 2 + s ≤ size

pub is_inside : (h s size : ℕ) → inside_up h s size ≡ true → ReadsInside h s size
is_inside h s size e =
    let b = both_true (leb 4294967296 h) _ e in
    record { low = leb-true _ _ b.0; high = leb-true _ _ b.1 }

module _ (c : Canvas) (x y ux uy s cols q : ℕ) (parts : Parts s cols q) where
  abbrev hx : ℕ
  hx = 2 * (x + q % cols * s) + ux

  abbrev hy : ℕ
  hy = 2 * (y + q / cols * s) + uy

  abbrev x0 : ℕ
  x0 = hx / 2 - 2147483648

  abbrev y0 : ℕ
  y0 = hy / 2 - 2147483648

  pub in_canvas : length c.samples ≡ c.stride * c.rows → ReadsInside hx s c.stride → ReadsInside hy s c.rows → InCanvas c s (hx % 2) (hy % 2) x0 y0
  in_canvas e a b = record { ox_bit = omega arith; oy_bit = omega arith; canvas_len = e; x_in = a.high; y_in = b.high }

  sample_same : ReadsInside hx s c.stride → ReadsInside hy s c.rows → (j : ℕ) → j < s * s
      → cell c (hx % 2) (hy % 2) ((y0 + j / s) * c.stride + x0 + j % s) ≡ moved_sample c 16 x y (down_mv ux uy) (entry_of s cols q j)
  sample_same a b j h =
      let some = side_some s cols q parts in
      let k : j % s < s = mod-lt j some in
      let i : j / s < s = (div-lt_iff_lt-mul some).1 h in
      let w : q % cols * s + j % s < s * cols = let z : q % cols * s + j % s < cols * s = digits_lt (mod-lt q (cols_some s cols q parts)) k in omega (arith, mul_comm s cols) in
      let across : s * cols ≡ 16 = parts.across in
      let w16 : q % cols * s + j % s < 16 = omega arith in
      let d : entry_of s cols q j / 16 ≡ q / cols * s + j / s = rw across (digits_div (q / cols * s + j / s) w16) in
      let m : entry_of s cols q j % 16 ≡ q % cols * s + j % s = rw across (digits_mod (q / cols * s + j / s) w16) in
      let l : (y0 + j / s) * c.stride + (x0 + j % s) ≡ (y0 + j / s) * c.stride + x0 + j % s = omega arith in
      let e = half_in c (x0 + j % s) (y0 + j / s) (hx % 2) (hy % 2) (omega arith) (omega arith) (omega (arith, a.high)) (omega (arith, b.high)) in
      let ax : x + q % cols * s + j % s ≡ x + (q % cols * s + j % s) = omega arith in
      let ay : y + q / cols * s + j / s ≡ y + (q / cols * s + j / s) = omega arith in
      sym
      (ap₂ (λ (u v : ℕ). half_sample c (pos (2 * (x + u)) +ℤ down ux) (pos (2 * (y + v)) +ℤ down uy)) m d
      ∙ ap₂ (λ (u v : ℕ). half_sample c (pos (2 * u) +ℤ down ux) (pos (2 * v) +ℤ down uy)) (sym ax) (sym ay)
      ∙ ap₂ (half_sample c) (place_of (x + q % cols * s) (j % s) ux a.low) (place_of (y + q / cols * s) (j / s) uy b.low)
      ∙ e ∙ ap (cell c (hx % 2) (hy % 2)) l)

  pub inside_moved : (xs : List ℕ) → ReadsInside hx s c.stride → ReadsInside hy s c.rows
      → cell_part c (hx % 2) (hy % 2) x0 y0 s cols q xs ≡ moved_part c x y (down_mv ux uy) s cols q xs
  unfolding cell_part moved_part
  inside_moved xs a b =
      ap (λ (v : List ℕ). put_part s cols q v xs)
      (ext_get_or 0 _ _ (length_values _ (s * s) 0 ∙ sym (length_values _ (s * s) 0)) (λ j l.
      let h : j < s * s = rw length_values at l in
      let z = zero-add j in
      value_at (λ j. cell c (hx % 2) (hy % 2) ((y0 + j / s) * c.stride + x0 + j % s)) (s * s) 0 j 0 h
      ∙ ap (λ (i : ℕ). cell c (hx % 2) (hy % 2) ((y0 + i / s) * c.stride + x0 + i % s)) z
      ∙ sample_same a b j h
      ∙ sym
      (value_at (λ j. moved_sample c 16 x y (down_mv ux uy) (entry_of s cols q j)) (s * s) 0 j 0 h
      ∙ ap (λ (i : ℕ). moved_sample c 16 x y (down_mv ux uy) (entry_of s cols q i)) z)))
