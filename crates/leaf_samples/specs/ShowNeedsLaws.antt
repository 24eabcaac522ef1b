-- Laws of showing a leaf: its mean by its position, the sums stage by stage, and the samples by its code.
-- Assumes nothing.
use Rattle.std.specs.Prelude.{◌≡◌, refl, List, ◌∷◌, ℕ, ◌+◌, ◌*◌, ◌≤◌, ◌<◌, min, ℤ, pos, take, drop, get_or}
use Rattle.std.proofs.Common.{sym, ◌∙◌, add-one, drop_of_length-le, drop-cons, get_or-take, length-take-le}
use Rattle.std.proofs.Math.Path.{ap}
use native.Mathlib.Omega.{arith}
use Rattle.std.proofs.Math.IntN.{sub_ℕ}
use Rattle.std.proofs.Math.ListN.{length, length-take}
use Rattle.bits.specs.ReadLaws.{take_min}
use Rattle.book.specs.declared.svq1_vlc.Svq1Half.{Svq1Half}
use Rattle.book.specs.declared.svq1_vlc.Svq1Half.TheVariants.{Intra, Inter}
use Rattle.codebook.specs.Mean.{mean_position}
use Rattle.leaf.specs.Leaf.{Vectors, skip, coded, plus, seeded, staged, samples, leaf_shown}
use Rattle.leaf.specs.LeafForms.{less, plus_n, vectors_in, leaf_of}
use Rattle.leaf_samples.specs.RaisedLaws.{stage_sums, next_part}
use Rattle.bits.specs.DifferenceLaws.{sub_over}
use Rattle.leaf.specs.declared.svq1_enc_leaf.LeafCode.{LeafCode}
use Rattle.leaf.specs.declared.svq1_enc_leaf.LeafCode.TheVariants.{Skip, Coded}
use Rattle.leaf_samples.specs.ShowNeeds.{MeanKnown}

-- where a mean stands in its table, and what a position kept plus 256 (intra) or as it is (inter) stands for
pub mean_few : (h : Svq1Half) (m : ℤ) → MeanKnown h m → mean_position h m ≤ 511
mean_few Intra m g = omega (arith, g.place)
mean_few Inter m g = omega (arith, g.place)

module _ (h : Svq1Half) (m : ℤ) (k : ℕ) (g : MeanKnown h m) (at : k ≡ mean_position h m) where
  pub mean_intra : h ≡ Intra → (sub_ℕ (256 + k) 256 ≡ m) × (256 + k ≤ 511)
  mean_intra e =
      let q : k ≡ mean_position Intra m = rw e at at in
      let f : MeanKnown Intra m = rw e at g in
      (sub_over 256 k ∙ ap pos q ∙ f.back, omega (arith, f.place))

  pub mean_inter : h ≡ Inter → (sub_ℕ k 256 ≡ m) × (k ≤ 511)
  mean_inter e =
      let q : k ≡ mean_position Inter m = rw e at at in
      let f : MeanKnown Inter m = rw e at g in
      (ap (λ (n : ℕ). sub_ℕ n 256) q ∙ f.back, omega (arith, f.place))

-- k stages are added, the others are to come
pub record Added (a₀ book : List ℕ) (base count : ℕ) (js a : List ℕ) (at k : ℕ) : Type 0 where
  pub within : k ≤ count
  pub same : length a ≡ length a₀
  pub place : at ≡ base + length a₀ * 16 * k
  pub low : (i : ℕ) → get_or a i 0 ≤ 1000 + 255 * k
  pub sums : staged (vectors_in book base (length a₀)) k (less (256 + 128 * k) a) (drop k (take count js))
      ≡ staged (vectors_in book base (length a₀)) 0 (less 256 a₀) (take count js)

module _ (a₀ book : List ℕ) (base count : ℕ) (js a : List ℕ) (at k : ℕ) (g : Added a₀ book base count js a at k) where
  abbrev vs : Vectors
  vs = vectors_in book base (length a₀)

  module _ (more : k < count) (six : count ≤ length js) (j : ℕ) (here : j ≡ get_or js k 0) (a' : List ℕ)
      (sum : a' ≡ plus_n a (take (length a) (drop (at + length a * j) book))) (long : length a' ≡ length a) (grown : (i : ℕ) → get_or a' i 0 ≤ get_or a i 0 + 255) where
    next_sums : less (256 + 128 * (k + 1)) a' ≡ plus (less (256 + 128 * k) a) (vs k j)
    unfolding vectors_in
    next_sums =
        let e : 256 + 128 * (k + 1) ≡ 256 + 128 * k + 128 = omega arith in
        rw (e, sum, g.same, ← g.place) (stage_sums book a at (length a₀) (256 + 128 * k) j)

    to_come : drop k (take count js) ≡ j ∷ drop (k + 1) (take count js)
    to_come =
        let n : length (take count js) ≡ count = length-take-le count js six in
        let l : k < length (take count js) = omega arith in
        rw (add-one, drop-cons (take count js) k 0 l, get_or-take count js k 0, ← here)

    one_stage : staged vs k (less (256 + 128 * k) a) (drop k (take count js)) ≡ staged vs (k + 1) (less (256 + 128 * (k + 1)) a') (drop (k + 1) (take count js))
    unfolding staged
    one_stage = rw (to_come, next_sums, add-one)

    pub stage_added : Added a₀ book base count js a' (at + length a₀ * 16) (k + 1)
    stage_added =
        record {
          within = omega arith;
          same = long ∙ g.same;
          place = omega (arith, g.place, next_part (length a₀ * 16) k);
          low = λ i. omega (arith, g.low i, grown i);
          sums = sym one_stage ∙ g.sums;
        }

  pub all_added : count ≤ k → less (256 + 128 * count) a ≡ staged vs 0 (less 256 a₀) (take count js)
  unfolding staged
  all_added h =
      let e : k ≡ count = omega (arith, g.within) in
      let few : length (take count js) ≤ k = rw length-take (omega arith) in
      ap (λ (n : ℕ). less (256 + 128 * n) a) (sym e) ∙ rw (drop_of_length-le (take count js) {i = k} few) at g.sums

-- ---- by the code
skip_shown : (vs : Vectors) (p : List ℕ) → p ≡ leaf_shown vs p skip
unfolding leaf_shown
skip_shown vs p = refl

pub shown_skip : (vs : Vectors) (p js out : List ℕ) (c : LeafCode) → c ≡ Skip → out ≡ p → out ≡ leaf_shown vs p (leaf_of c js)
shown_skip vs p js out c e o = rw e (o ∙ skip_shown vs p)

few : (js : List ℕ) (count : ℕ) → length js ≡ 6 → take (min count 6) js ≡ take count js
few js count six = rw (← six) (take_min count js)

pub shown_coded : (vs : Vectors) (p js out : List ℕ) (c : LeafCode) (m z : ℤ) (n k : ℕ) → c ≡ Coded m n → z ≡ m → length js ≡ 6 → k ≡ min n 6
    → out ≡ leaf_shown vs p (coded z (take k js)) → out ≡ leaf_shown vs p (leaf_of c js)
shown_coded vs p js out c m z n k e q six r o = rw (e, ← q, ← few js n six, ← r) o

-- the samples of the sums
pub coded_shown : (p book a b : List ℕ) (base mean count bias : ℕ) (js out : List ℕ) → length a ≡ length p → less 256 a ≡ seeded (sub_ℕ mean 256) p
    → less (256 + 128 * count) b ≡ staged (vectors_in book base (length a)) 0 (less 256 a) (take count js) → bias ≡ 256 + 128 * count → out ≡ samples (less bias b)
    → out ≡ leaf_shown (vectors_in book base (length p)) p (coded (sub_ℕ mean 256) (take count js))
unfolding leaf_shown
coded_shown p book a b base mean count bias js out size first all e o = o ∙ ap samples (rw e (all ∙ rw (size, first)))
