-- Laws of the leaf search's answer.
-- Assumes nothing.
use Rattle.std.specs.Prelude.{◌≡◌, refl, Bool, List, ℕ, ◌+◌, ◌*◌, ◌≤◌, ◌<◌, leb, ℤ, length, replicate}
use Rattle.std.proofs.Common.{◌∙◌, le-leb}
use Rattle.std.proofs.Math.Path.{ap, ap₂}
use Rattle.std.proofs.Math.Bool.{true, false, ◌&&◌}
use Rattle.std.proofs.Math.IntN.{sub_ℕ}
use Rattle.std.proofs.lemmas.Bool.{lt-leb}
use Rattle.leaf.specs.declared.svq1_enc_leaf.LeafCode.{LeafCode}
use Rattle.leaf.specs.declared.svq1_enc_leaf.LeafTerms.{LeafTerms}
use Rattle.leaf.specs.declared.svq1_enc_leaf.LeafCode.TheVariants.{Skip, Coded}
use Rattle.codebook.specs.Mean.{residual, mean_of}
use Rattle.leaf.specs.Leaf.{Vectors, coded, sse, seeded, staged, samples, leaf_shown, stages, coded_leaf, leaf_rule}
use Rattle.leaf.specs.LeafForms.{less, vectors_in}
use Rattle.leaf.specs.LeafNeeds.{Coding, Chosen}
use Rattle.leaf.specs.LentNeedsLaws.{coded_clean, skip_clean}
use Rattle.leaf_search.specs.StagesNeeds.{Searched}
use Rattle.leaf_search.specs.declared.svq1_enc_leaf.inner.Stages.{Stages}

-- a mean, sums seeded with it, and a stage search from there make the coded leaf
pub coded_done : (terms : LeafTerms) (t p book a b out : List ℕ) (base mean bias : ℕ) (m : ℤ) (r : Stages)
    → sub_ℕ mean 256 ≡ mean_of terms.half (residual t p) (length t) → less 256 a ≡ seeded (sub_ℕ mean 256) p
    → Searched (record { target = t; sums = a; codebook = book; base = base; bias = 256; terms = terms }) b r
    → m ≡ sub_ℕ mean 256 → bias ≡ 256 + 128 * r.count → out ≡ samples (less bias b) → r.count ≤ 6
    → Coding terms t p book base (Coded m r.count) r.index r.error out
unfolding coded_leaf leaf_shown
coded_done terms t p book a b out base mean bias m r em es s e eb eo most =
    let vs = vectors_in book base (length t) in
    let first = seeded (mean_of terms.half (residual t p) (length t)) p in
    let z : less 256 a ≡ first = es ∙ ap (λ (x : ℤ). seeded x p) em in
    let shown : samples (less (256 + 128 * r.count) b) ≡ samples (staged vs 0 first (stages terms.margin vs t terms.cap 0 first)) =
    ap samples (s.sums ∙ ap (λ (y : List ℤ). staged vs 0 y (stages terms.margin vs t terms.cap 0 y)) z) in
    record {
      leaf = ap₂ coded (e ∙ em) (s.indices ∙ ap (stages terms.margin vs t terms.cap 0) z);
      erring = s.erring ∙ ap (sse t) shown;
      shown = eo ∙ ap (λ (n : ℕ). samples (less n b)) eb ∙ shown;
      clean = coded_clean m r.count r.index most s.six s.behind;
    }

module _ (terms : LeafTerms) (t p book : List ℕ) (base : ℕ) (code : LeafCode) (js : List ℕ) (e : ℕ) (out : List ℕ) (c : Coding terms t p book base code js e out) where
  abbrev vs : Vectors
  vs = vectors_in book base (length t)

  -- skip's error is no larger
  abbrev no-worse : Bool
  no-worse = leb (sse t p) (sse t (leaf_shown vs p (coded_leaf terms vs t p)))

  -- skip wins at equal error
  pub skip_wins : (zs left : List ℕ) (x : ℕ) → terms.skip ≡ true → x ≡ sse t p → x ≤ e → left ≡ p → zs ≡ replicate 6 0 → Chosen terms t p book base Skip zs x left
  unfolding leaf_rule leaf_shown
  skip_wins zs left x opened ex l el ez =
      let test : no-worse ≡ true = rw (← ex, ← c.erring) (le-leb x e l) in
      let both : terms.skip && no-worse ≡ true = ap₂ ◌&&◌ opened test in
      rw both (record { leaf = refl; erring = ex; shown = el; clean = skip_clean zs ez })

  pub skip_loses : (x : ℕ) → terms.skip ≡ true → x ≡ sse t p → e < x → Chosen terms t p book base code js e out
  unfolding leaf_rule
  skip_loses x opened ex l =
      let test : no-worse ≡ false = rw (← ex, ← c.erring) (lt-leb x e l) in
      let both : terms.skip && no-worse ≡ false = ap₂ ◌&&◌ opened test in
      rw both c

  pub skip_closed : terms.skip ≡ false → Chosen terms t p book base code js e out
  unfolding leaf_rule
  skip_closed closed =
      let both : terms.skip && no-worse ≡ false = ap (λ (f : Bool). f && no-worse) closed in
      rw both c
