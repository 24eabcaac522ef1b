-- The cases of `saturate` by tests of the 16 bits as they are read back.
use Rattle.std.specs.Prelude.{◌≡◌, true, false, ℤ, pos, nat_abs}
use Rattle.std.specs.Int.Signed.{lt_z}
use Rattle.std.proofs.Math.Facts.{to_z-of_z}
use mir.Syntax.{w16}
use mir.Val.{SFits, to_z, of_z}
use Rattle.codebook.specs.Mean.{saturate}
use Rattle.codebook.specs.MeanLaws.{saturate_above, saturate-within}

pub shown_white : (z : ℤ) → SFits w16 z → lt_z (pos 255) (to_z w16 (of_z w16 z)) ≡ true → 255 ≡ saturate z
shown_white z f h = saturate_above z (simp (to_z-of_z f) at h)

pub shown_itself : (z : ℤ) → SFits w16 z → lt_z (to_z w16 (of_z w16 z)) (pos 0) ≡ false → lt_z (pos 255) (to_z w16 (of_z w16 z)) ≡ false → nat_abs (to_z w16 (of_z w16 z)) ≡ saturate z
shown_itself z f l h = let e = to_z-of_z f in simp e (saturate-within z (simp e at l) (simp e at h)).itself

pub ruleset saturated = (shown_white, shown_itself)
