-- Laws of the absolute difference of two samples by way of their signed difference.
-- Assumes nothing.
use Rattle.std.specs.Prelude.{ℕ, suc, ◌-◌, ◌<◌, ◌≤◌, ◌≡◌, true, false, ℤ, pos, negsuc, ◌+ℤ◌, ◌-ℤ◌}
use Rattle.std.proofs.Common.{sym, ap, ◌∙◌, arith, zero-add, lt-ltb, ltb-true}
use Rattle.std.proofs.Math.Decide.{dec_lt}
use Rattle.std.proofs.Math.IntN.{sub_ℕ}
use Rattle.std.specs.Int.Signed.{lt_z, mag}
use Rattle.bits.specs.DifferenceLaws.{sub_pos, pos_is, pos_sub, neg_sub, sub_sub}

module _ (a b : ℕ) where
  difference : pos a -ℤ pos b ≡ sub_ℕ a b
  difference = ap (λ (z : ℤ). z -ℤ pos b) (pos_is a) ∙ ap (λ (z : ℤ). sub_ℕ a 0 -ℤ z) (pos_is b) ∙ sub_sub a b 0

  -- its sign
  pub straight : b ≤ a → pos a -ℤ pos b ≡ pos (a - b)
  straight h = difference ∙ sub_pos a b h

  below : a < b → pos a -ℤ pos b ≡ negsuc (b - suc a)
  below h = difference ∙ simp (lt-ltb a b h)

  pub negative : lt_z (pos a -ℤ pos b) (pos 0) ≡ true → a < b
  negative e = go (dec_lt a b)
    where
      go : Dec (a < b) → a < b
      go (yes h) = h
      go (no h) = absurd (omega (arith, ltb-true (a - b) 0 (sym (ap (λ (z : ℤ). lt_z z (pos 0)) (straight (omega arith))) ∙ e)))

  pub natural : lt_z (pos a -ℤ pos b) (pos 0) ≡ false → b ≤ a
  natural e = go (dec_lt a b)
    where
      go : Dec (a < b) → b ≤ a
      go (yes h) = let n : true ≡ false = sym (ap (λ (z : ℤ). lt_z z (pos 0)) (below h)) ∙ e in absurd (let z : ◌≡◌ {A = ℕ} 0 1 = cc in omega arith)
      go (no h) = omega arith

  -- turned round where it is negative
  pub turned : a < b → pos 0 -ℤ (pos a -ℤ pos b) ≡ pos (b - a)
  turned h =
      ap (λ (z : ℤ). pos 0 -ℤ z) difference ∙ ap (λ (z : ℤ). pos 0 +ℤ z) (neg_sub a b) ∙ pos_sub 0 b a
      ∙ ap (λ (n : ℕ). sub_ℕ n a) (zero-add b) ∙ sub_pos b a (omega arith)

  -- of bytes it is small
  pub small : a < 256 → b < 256 → mag (pos a -ℤ pos b) < 256
  small h k = go (dec_lt a b)
    where
      go : Dec (a < b) → mag (pos a -ℤ pos b) < 256
      go (yes l) = rw (below l) (omega arith)
      go (no l) = rw (straight (omega arith)) (omega arith)
