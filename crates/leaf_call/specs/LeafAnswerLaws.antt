-- Laws of the leaf search as a call.
-- Assumes nothing.
use Rattle.std.specs.Prelude.{ℕ, zero, suc, ◌-◌, ◌≤◌, ◌<◌, ◌≡◌, refl, Bool, true, false, not, ◌&&◌, List, eqb, leb, ltb, length, take, drop, replicate, Ok, Err}
use Rattle.std.proofs.Math.Path.{sym, ap}
use Rattle.std.proofs.Common.{◌∙◌, arith}
use borrow.Author.Tests.{lt-ltb, le-ltb, eq-eqb, ne_eqb, le-leb, lt-leb, ltb-true, leb-true, eqb-true}
use Rattle.bits.specs.Basics.{unless, Bytes}
use Rattle.bits.specs.BasicsLaws.{both_true, or_none, unless-none}
use Rattle.bits.specs.Refusals.{number_of, done}
use Rattle.bits.specs.CallsLaws.{met_first, met_behind, answer_met}
use Rattle.bits.specs.declared.refusal.Refusal.{Refusal}
use Rattle.book.specs.Book.{data_refusal, book_refusal, codebook_bytes, tables_of}
use Rattle.book.specs.BookLaws.{data_passes}
use Rattle.book.specs.Level.{area}
use Rattle.book.specs.declared.svq1_vlc.Svq1Half.TheVariants.{Inter}
use Rattle.leaf.specs.LeafBits.{leaf_bits}
use Rattle.leaf.specs.LeafForms.{leaf_of}
use Rattle.codebook.specs.CodebookForms.{raised_codebook}
use Rattle.leaf.specs.LeafNeeds.{LeafFound}
use Rattle.leaf.specs.AgreeLaws.{leaf_found}
use Rattle.leaf_call.specs.declared.svq1_enc_leaf.LeafAnswer.{LeafAnswer}
use Rattle.leaf.specs.declared.svq1_enc_leaf.LeafTerms.{LeafTerms}
use Rattle.leaf_search.specs.declared.svq1_enc_leaf.LeafChoice.{LeafChoice}
use Rattle.leaf.specs.LeafCall.{BlockIn, half_at, terms_of, block_ok, block_refusal, leaf_chosen, leaf_answer}
use Rattle.leaf_call.specs.LeafAnswer.{block_fits, LeafAnswered}
use Rattle.leaf_search.specs.LevelLeafNeeds.{LevelChosen}

-- ---- 8, test by test
module _ (level half target predictor cap : ℕ) (skip : Bool) where
  pub no_level : 5 < level → false ≡ block_fits level half target predictor cap skip
  unfolding block_fits
  no_level h = rw (le-ltb level 6 h)

  module _ (l : level ≤ 5) where
    pub no_half : 1 < half → false ≡ block_fits level half target predictor cap skip
    unfolding block_fits
    no_half h = rw (lt-ltb level 6 (omega arith), le-ltb half 2 h)

    module _ (f : half ≤ 1) (n : ℕ) (size : n ≡ area level) where
      pub no_target : (target ≡ n → ⊥) → false ≡ block_fits level half target predictor cap skip
      unfolding block_fits
      no_target h = rw (lt-ltb level 6 (omega arith), lt-ltb half 2 (omega arith), ← size, ne_eqb target n h)

      module _ (t : target ≡ n) where
        pub no_predictor : (predictor ≡ n → ⊥) → false ≡ block_fits level half target predictor cap skip
        unfolding block_fits
        no_predictor h = rw (lt-ltb level 6 (omega arith), lt-ltb half 2 (omega arith), ← size, eq-eqb target n t, ne_eqb predictor n h)

        module _ (p : predictor ≡ n) where
          pub no_cap : 6 < cap → false ≡ block_fits level half target predictor cap skip
          unfolding block_fits
          no_cap h = rw (lt-ltb level 6 (omega arith), lt-ltb half 2 (omega arith), ← size, eq-eqb target n t, eq-eqb predictor n p, lt-leb cap 6 h)

          pub last_test : cap ≤ 6 → not (skip && eqb half 0) ≡ block_fits level half target predictor cap skip
          unfolding block_fits
          last_test h = rw (lt-ltb level 6 (omega arith), lt-ltb half 2 (omega arith), ← size, eq-eqb target n t, eq-eqb predictor n p, le-leb cap 6 h)

-- ---- a call that passes
pub fits_is : (b : BlockIn) → block_ok b ≡ block_fits b.level b.half (length b.target) (length b.predictor) b.cap b.allow_skip
unfolding block_ok block_fits
fits_is b = refl

pub record BlockPasses (b : BlockIn) : Type 0 where
  pub codebook : length b.codebook ≡ codebook_bytes
  pub book : book_refusal b.book ≡ 0
  pub level : b.level ≤ 5
  pub half : b.half ≤ 1
  pub target : length b.target ≡ area b.level
  pub predictor : length b.predictor ≡ area b.level
  pub cap : b.cap ≤ 6
  pub skip : b.allow_skip ≡ true → half_at b.half ≡ Inter

skips : (a : Bool) (h : ℕ) → not (a && eqb h 0) ≡ true → a ≡ true → half_at h ≡ Inter
skips true zero e q = let z : false ≡ true = e in absurd (let n : ◌≡◌ {A = ℕ} 0 1 = cc in omega arith)
skips true (suc h) e q = refl
skips false h e q = absurd (let n : ◌≡◌ {A = ℕ} 0 1 = cc in omega arith)

pub block_passes : (b : BlockIn) → block_refusal b ≡ 0 → BlockPasses b
unfolding block_refusal block_ok
block_passes b e =
    let two = or_none (data_refusal b.book b.codebook) (unless (block_ok b) 8) e in
    let both = data_passes b.book b.codebook two.0 in
    let ok = unless-none (block_ok b) 8 (omega arith) two.1 in
    let l = ltb b.level 6 in
    let h = ltb b.half 2 in
    let t = eqb (length b.target) (area b.level) in
    let p = eqb (length b.predictor) (area b.level) in
    let c = leb b.cap 6 in
    let s = not (b.allow_skip && eqb b.half 0) in
    let all = both_true ((l && h) && (t && p)) (c && s) ok in
    let front = both_true (l && h) (t && p) all.0 in
    let lh = both_true l h front.0 in
    let tp = both_true t p front.1 in
    let cs = both_true c s all.1 in
    let level = ltb-true b.level 6 lh.0 in
    let half = ltb-true b.half 2 lh.1 in
    record {
      codebook = both.0;
      book = both.1;
      level = omega arith;
      half = omega arith;
      target = eqb-true (length b.target) (area b.level) tp.0;
      predictor = eqb-true (length b.predictor) (area b.level) tp.1;
      cap = leb-true b.cap 6 cs.0;
      skip = skips b.allow_skip b.half cs.1;
    }

-- the refusals, lowest first
pub data_first : (b : BlockIn) (r : Refusal) → number_of r ≡ data_refusal b.book b.codebook → number_of r ≡ block_refusal b
unfolding block_refusal
data_first b r e = met_first r (data_refusal b.book b.codebook) (unless (block_ok b) 8) e

pub block_next : (b : BlockIn) → 0 ≡ data_refusal b.book b.codebook → (f : Bool) (r : ℕ)
    → f ≡ block_fits b.level b.half (length b.target) (length b.predictor) b.cap b.allow_skip → r ≡ unless f 8 → r ≡ block_refusal b
unfolding block_refusal
block_next b z f r q p = met_behind (data_refusal b.book b.codebook) (unless (block_ok b) 8) r z (p ∙ ap (λ (t : Bool). unless t 8) (q ∙ sym (fits_is b)))

-- ---- the answers
pub drop_replicate : (k n : ℕ) → drop {A = ℕ} k (replicate n 0) ≡ replicate (n - k) 0
drop_replicate zero n =
    let z : n - 0 ≡ n = omega arith in
    rw z
drop_replicate (suc k) zero =
    let z : 0 - suc k ≡ 0 = omega arith in
    rw z
drop_replicate (suc k) (suc n) =
    let z : suc n - suc k ≡ n - k = omega arith in
    rw z (drop_replicate k n)

pub answer_refused : (b : BlockIn) (r : Refusal) → number_of r ≡ block_refusal b → LeafAnswered b (Err r)
unfolding leaf_answer
answer_refused b r e = record { answer = answer_met r (block_refusal b) (done (leaf_chosen b)) e; behind = tt; clean = tt }

-- what was found, counted, and put at the front of 256 zeros
pub answer_found : (b : BlockIn) (a : LeafAnswer) → block_refusal b ≡ 0
    → LeafFound b.codebook (terms_of b) b.level b.target b.predictor a.code a.stages a.error (take (length b.target) a.samples)
    → a.bits ≡ length (leaf_bits (tables_of b.book (terms_of b).half) b.level (leaf_of a.code a.stages))
    → drop (length b.target) a.samples ≡ drop {A = ℕ} (length b.target) (replicate 256 0)
    → LeafAnswered b (Ok a)
unfolding leaf_answer leaf_chosen
answer_found b a e f c d =
    record {
      answer = rw (eq-eqb (block_refusal b) 0 e, c, f.erring, f.shown, f.leaf);
      behind = d ∙ drop_replicate (length b.target) 256;
      clean = f.clean;
    }

-- what was found in the copy, by the codebook
pub found_level : (codebook raised : List ℕ) (terms : LeafTerms) (d : ℕ) (t p : List ℕ) (r : LeafChoice) (out left : List ℕ)
    → Bytes codebook → raised ≡ raised_codebook codebook → terms.cap ≤ 6 → length t ≡ area d → LevelChosen terms d t p raised r out left
    → LeafFound codebook terms d t p r.code r.stages r.error (take (length t) left)
found_level codebook raised terms d t p r out left bytes copy most size c =
    leaf_found codebook bytes terms d t p r.code r.stages r.error (take (length t) left) most size (rw (← copy) c.chosen)

pub half_inter : (h : ℕ) → (h ≡ 0 → ⊥) → Inter ≡ half_at h
half_inter zero e = absurd (e refl)
half_inter (suc h) e = refl
