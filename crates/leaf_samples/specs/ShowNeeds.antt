-- What showing a leaf asks (document 01, "Reading", over the definitions of leaf/Leaf).
use Rattle.std.specs.Prelude.{◌≡◌, List, ℕ, ◌+◌, ◌*◌, ◌≤◌, ◌<◌, min, ℤ, length, get_or}
use Rattle.book.specs.BookLaws.{means}
use Rattle.book.specs.declared.svq1_vlc.Svq1Half.{Svq1Half}
use Rattle.codebook.specs.Mean.{mean_position, mean_at}
use Rattle.leaf.specs.LeafForms.{Below}
use Rattle.leaf.specs.declared.svq1_enc_leaf.LeafCode.{LeafCode}
use Rattle.leaf.specs.declared.svq1_enc_leaf.LeafCode.TheVariants.{Skip, Coded}

-- the mean is one of its half's table
pub record MeanKnown (h : Svq1Half) (m : ℤ) : Type 0 where
  pub place : mean_position h m < means h
  pub back : mean_at h (mean_position h m) ≡ m

-- a predictor of at most 256 samples, and room for as many sums and samples
pub record SizedSums (p a out : List ℕ) : Type 0 where
  pub few : length p ≤ 256
  pub sums : length a ≡ length p
  pub shown : length out ≡ length p

-- at most six stages of sixteen vectors of n samples lie from `base` on in a book of this size, and each index names one
pub record Staging (n size base count : ℕ) (js : List ℕ) : Type 0 where
  pub most : count ≤ 6
  pub page : base + n * 16 * count ≤ size
  pub small : (k : ℕ) → k < count → get_or js k 0 < 16

-- the same for a leaf's code, whose count of stages stands for six at most; skip asks nothing
abbrev pub CodeShows : Svq1Half → ℕ → ℕ → ℕ → LeafCode → List ℕ → Type 0
CodeShows h n size base Skip js = Unit
CodeShows h n size base (Coded m count) js = MeanKnown h m × Staging n size base (min count 6) js

-- what adding the stages' vectors asks
pub record Adding (a : List ℕ) (size base count : ℕ) (js : List ℕ) : Type 0 where
  pub few : length a ≤ 256
  pub low : Below 1000 a
  pub stages : Staging (length a) size base count js
