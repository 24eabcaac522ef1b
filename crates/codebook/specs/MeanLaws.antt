-- Laws of the mean and of saturation.
-- Assumes nothing.
use Rattle.std.specs.Prelude.{◌≡◌, refl, true, false, ◌<◌, T, ℤ, pos, negsuc, nat_abs}
use Rattle.std.proofs.Common.{sym, true≢false, arith, ltb-true, ltb-false}
use Rattle.std.specs.Int.Signed.{lt_z, non_neg}
use Rattle.codebook.specs.Mean.{saturate}

-- a sum below 0 shows 0, one above 255 shows 255, any other itself
pub saturate-below : (z : ℤ) → lt_z z (pos 0) ≡ true → 0 ≡ saturate z
unfolding saturate
saturate-below (pos n) e = absurd (omega (arith, ltb-true n 0 e))
saturate-below (negsuc n) e = refl

pub saturate_above : (z : ℤ) → lt_z (pos 255) z ≡ true → 255 ≡ saturate z
unfolding saturate
saturate_above (pos n) e = omega (arith, ltb-true 255 n e)
saturate_above (negsuc n) e = absurd (true≢false (sym e))

pub record Within (z : ℤ) : Type 0 where
  pub natural : T (non_neg z)
  pub small : nat_abs z < 256
  pub itself : nat_abs z ≡ saturate z

pub saturate-within : (z : ℤ) → lt_z z (pos 0) ≡ false → lt_z (pos 255) z ≡ false → Within z
unfolding saturate
saturate-within (pos n) l h = record { natural = tt; small = omega (arith, ltb-false 255 n h); itself = omega (arith, ltb-false 255 n h) }
saturate-within (negsuc n) l h = absurd (true≢false l)
