-- Squared distances summed in two totals, of their low and of their high bytes: what such a loop keeps, what one sample more makes of it, and what it comes to at the end.
-- Assumes nothing.
use Rattle.std.specs.Prelude.{◌≡◌, List, ℕ, ◌+◌, ◌*◌, ◌/◌, ◌%◌, ◌≤◌, ◌<◌, drop, get_or}
use Rattle.std.proofs.Common.{arith, add-one}
use Rattle.std.proofs.Math.ListN.{length}
use Rattle.std.proofs.Math.Seq.{drop-cons, drop-length}
use Rattle.leaf.specs.Leaf.{sse}
use Rattle.leaf.specs.LeafForms.{sqd}

-- i samples of t are done against those of s
pub record Totals (t s : List ℕ) (low high i : ℕ) : Type 0 where
  pub within : i ≤ length t
  pub lows : low ≤ 255 * i
  pub highs : high ≤ 254 * i
  pub whole : low + 256 * high + sse (drop i t) (drop i s) ≡ sse t s

module _ {t s : List ℕ} {low high i : ℕ} (g : Totals t s low high i) where
  pub one_more : (e : ℕ) → i < length t → i < length s → e ≡ sqd (get_or t i 0) (get_or s i 0) → e ≤ 65025 → Totals t s (low + e % 256) (high + e / 256) (i + 1)
  unfolding sse sqd
  one_more e h k f m =
      let next : sse (drop i t) (drop i s) ≡ sqd (get_or t i 0) (get_or s i 0) + sse (drop (i + 1) t) (drop (i + 1) s) = simp (add-one, drop-cons t i 0 h, drop-cons s i 0 k) in
      record {
        within = omega arith;
        lows = omega (arith, g.lows);
        highs = omega (arith, g.highs);
        whole = omega (arith, g.whole, next, f);
      }

  pub all_summed : length t ≤ i → low + high * 256 ≡ sse t s
  unfolding sse
  all_summed h =
      let e : i ≡ length t = omega (arith, g.within) in
      omega (arith, rw (e, drop-length) at g.whole)
