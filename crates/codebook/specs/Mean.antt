-- A leaf's mean, on signed numbers (document 01, `svq1_mean.rs` and `svq1_enc_leaf.rs`).
use Rattle.std.specs.Prelude.{ℕ, suc, ◌+◌, ◌/◌, min, List, [], ◌∷◌, ℤ, pos, negsuc, ◌+ℤ◌, neg_ℤ}
use Rattle.std.proofs.Math.IntN.{sub_ℕ}
use Rattle.bits.specs.Basics.{natural}
use Rattle.book.specs.declared.svq1_vlc.Svq1Half.{Svq1Half}
use Rattle.book.specs.declared.svq1_vlc.Svq1Half.TheVariants.{Intra, Inter}

-- the sum of the residual: target less predictor
unfoldable pub residual : List ℕ → List ℕ → ℤ
residual [] ps = pos 0
residual (t ∷ ts) [] = pos 0
residual (t ∷ ts) (p ∷ ps) = sub_ℕ t p +ℤ residual ts ps

-- z over n, rounded half away from zero
unfoldable pub rounded : ℤ → ℕ → ℤ
rounded (pos s) n = pos ((s + n / 2) / n)
rounded (negsuc s) n = neg_ℤ (pos ((suc s + n / 2) / n))

-- clamped to the half's range: 0..255 for intra, -256..255 for inter
unfoldable pub clamp_mean : Svq1Half → ℤ → ℤ
clamp_mean Intra (pos m) = pos (min 255 m)
clamp_mean Intra (negsuc m) = pos 0
clamp_mean Inter (pos m) = pos (min 255 m)
clamp_mean Inter (negsuc m) = negsuc (min 255 m)

-- the mean of n residuals that sum to z
unfoldable pub mean_of : Svq1Half → ℤ → ℕ → ℤ
mean_of h z n = clamp_mean h (rounded z n)

-- a mean's position in its table, and the mean of a position: the mean for intra, the mean + 256 for inter
abbrev pub mean_position : Svq1Half → ℤ → ℕ
mean_position Intra m = natural m
mean_position Inter m = natural (m +ℤ pos 256)

abbrev pub mean_at : Svq1Half → ℕ → ℤ
mean_at Intra k = pos k
mean_at Inter k = sub_ℕ k 256

-- a sum as the sample that it shows: clamped to 0..255 (`saturate_u8`)
unfoldable pub saturate : ℤ → ℕ
saturate (pos n) = min 255 n
saturate (negsuc n) = 0
