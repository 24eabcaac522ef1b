-- Laws of clipping a component to -32..31: what lies under, over and between; and the magnitude of a sum.
-- Assumes nothing.
use Rattle.std.specs.Prelude.{◌≡◌, ℕ, suc, ◌+◌, ◌≤◌, ◌<◌, true, false, ℤ, pos, negsuc, ◌+ℤ◌}
use Rattle.std.proofs.Common.{sym, ap, true≢false, arith, ltb-true, ltb-false, lt-ltb, le-ltb}
use Rattle.std.proofs.Math.Decide.{dec_le}
use Rattle.std.proofs.Math.IntN.{sub_ℕ}
use Rattle.std.specs.Int.Signed.{lt_z, mag}
use Rattle.vectors.specs.Vectors.{clipped}

pub clip_under : (z : ℤ) → lt_z z (negsuc 31) ≡ true → negsuc 31 ≡ clipped z
clip_under (pos n) e = absurd (true≢false (sym e))
clip_under (negsuc n) e = let h : 31 < n = ltb-true 31 n e in ap negsuc (omega arith)

pub clip_over : (z : ℤ) → lt_z (pos 31) z ≡ true → pos 31 ≡ clipped z
clip_over (pos n) e = let h : 31 < n = ltb-true 31 n e in ap pos (omega arith)
clip_over (negsuc n) e = absurd (true≢false (sym e))

-- what is left has magnitude below 32, and stays
pub low_mag : (z : ℤ) → lt_z z (negsuc 31) ≡ false → lt_z (pos 31) z ≡ false → mag z < 32
low_mag (pos n) e f = omega (arith, ltb-false 31 n f)
low_mag (negsuc n) e f = omega (arith, ltb-false 31 n e)

pub clip_stays : (z : ℤ) → mag z < 32 → z ≡ clipped z
clip_stays (pos n) h = ap pos (omega arith)
clip_stays (negsuc n) h = ap negsuc (omega arith)

-- a sum's magnitude
pub sub_mag : (a b : ℕ) → mag (sub_ℕ a b) ≤ a + b
sub_mag a b = go (dec_le b a)
  where
    go : Dec (b ≤ a) → mag (sub_ℕ a b) ≤ a + b
    go (yes h) = rw (le-ltb a b h) (omega arith)
    go (no h) = let k : a < b = omega arith in rw (lt-ltb a b k) (omega arith)

pub sum_mag : (a b : ℤ) → mag (a +ℤ b) ≤ mag a + mag b + 1
sum_mag (pos a) (pos b) = omega arith
sum_mag (pos a) (negsuc b) = omega (arith, sub_mag a (suc b))
sum_mag (negsuc a) (pos b) = omega (arith, sub_mag b (suc a))
sum_mag (negsuc a) (negsuc b) = omega arith
