-- Laws of signed numbers: what fits in 16 and in 32 bits, and what is not below 0.
-- Assumes nothing.
use Rattle.std.specs.Prelude.{◌≡◌, refl, ℕ, suc, ◌≤◌, ◌<◌, true, false, T, ℤ, pos, negsuc, nat_abs, ◌+ℤ◌}
use Rattle.std.proofs.Common.{arith, lt-ltb, le-ltb, ltb-true, true≢false, SFits, to_z}
use Rattle.std.proofs.Math.Decide.{dec_le}
use Rattle.std.specs.Int.{w16, w32}
use Rattle.std.specs.Int.Signed.{mag, lt_z, non_neg}
use Rattle.std.proofs.Math.IntN.{sub_ℕ}
use Rattle.bits.specs.Basics.{natural}

pub to_pos : (m : ℕ) → m < 32768 → to_z w16 m ≡ pos m
to_pos m h = simp (lt-ltb _ _ h)

pub sub_small : (m b : ℕ) → m < 32768 → b < 32768 → mag (sub_ℕ m b) < 32768
sub_small m b h k = go (dec_le b m)
  where
    go : Dec (b ≤ m) → mag (sub_ℕ m b) < 32768
    go (yes e) = simp (le-ltb _ _ e) (omega arith)
    go (no e) =
        let l : m < b = omega arith in
        simp (lt-ltb _ _ l) (omega arith)

pub sub_sfits : (m b : ℕ) → m < 32768 → b < 32768 → SFits w16 (sub_ℕ m b)
sub_sfits m b h k = record { sfits = sub_small m b h k }

-- ---- a number that is not below 0
pub natural-below : (z : ℤ) → lt_z z (pos 0) ≡ true → 0 ≡ natural z
natural-below (pos n) e = absurd (omega (arith, ltb-true n 0 e))
natural-below (negsuc n) e = refl

pub record NotBelow (z : ℤ) : Type 0 where
  pub sign : T (non_neg z)
  pub itself : nat_abs z ≡ natural z
  pub fits : mag z < 2147483648 → nat_abs z < 18446744073709551616

pub not_below : (z : ℤ) → lt_z z (pos 0) ≡ false → NotBelow z
not_below (pos n) e = record { sign = tt; itself = refl; fits = λ h. omega arith }
not_below (negsuc n) e = absurd (true≢false e)

-- ---- 16 bits in 32
pub wider : (z : ℤ) → SFits w16 z → SFits w32 z
wider z s = record { sfits = omega (arith, s.sfits) }

sub_mag : (m b k : ℕ) → m < k → b ≤ k → mag (sub_ℕ m b) < k
sub_mag m b k h l = go (dec_le b m)
  where
    go : Dec (b ≤ m) → mag (sub_ℕ m b) < k
    go (yes e) = simp (le-ltb _ _ e) (omega arith)
    go (no e) =
        let f : m < b = omega arith in
        simp (lt-ltb _ _ f) (omega arith)

pub wider_sum : (z : ℤ) → SFits w16 z → SFits w32 (z +ℤ pos 256)
wider_sum (pos n) s = record { sfits = omega (arith, s.sfits) }
wider_sum (negsuc n) s = record { sfits = sub_mag 256 (suc n) 2147483648 (omega arith) (omega (arith, s.sfits)) }
