-- The stage search under way: what its loop keeps, what a taken stage makes of it, and what it comes to at the end.
-- Assumes nothing.
use Rattle.std.specs.Prelude.{◌≡◌, ℕ, suc, ◌+◌, ◌-◌, ◌*◌, ◌≤◌, ◌<◌, true, false, length, take, drop, get_or, set, replicate, ℤ}
use Rattle.std.proofs.Math.Path.{sym, ap, ap₂}
use Rattle.std.proofs.Common.{◌∙◌, add-one, drop-set-lt, drop-cons}
use mathlib.Core.List.{List, [], ◌∷◌, ◌++◌, append_assoc, append-nil}
use native.Mathlib.Omega.{arith}
use Rattle.std.proofs.Math.ListN.{length-set}
use Rattle.std.proofs.Math.Seq.{take-suc-set}
use Rattle.leaf.specs.Leaf.{sse, plus, samples, argmin, stage_error, best_vector, stays, stages, staged}
use Rattle.leaf.specs.LeafForms.{less, vector, vectors_in, vector_error, plus_n}
use Rattle.leaf_samples.specs.RaisedLaws.{stage_sums, next_part}
use Rattle.leaf_search.specs.StagesNeeds.{StageSearch, vectors_for, stages_for, Searched}

-- the stages from the k-th on, chosen on the sums z
abbrev left : StageSearch → ℕ → List ℤ → List ℕ
left q k z = stages q.terms.margin (vectors_for q) q.target (q.terms.cap - k) k z

-- after `count` stages: their indices, the sums with their vectors added, each kept plus p, and the error that they leave
pub record StagesGoing (q : StageSearch) (a index : List ℕ) (count at p current : ℕ) : Type 0 where
  pub within : count ≤ q.terms.cap
  pub same : length a ≡ length q.target
  pub six : length index ≡ 6
  pub place : at ≡ q.base + length q.target * 16 * count
  pub biased : p ≡ q.bias + 128 * count
  pub low : (i : ℕ) → get_or a i 0 ≤ 1000 + 255 * count
  pub indices : take count index ++ left q count (less p a) ≡ stages_for q
  pub sums : staged (vectors_for q) count (less p a) (left q count (less p a)) ≡ staged (vectors_for q) 0 (less q.bias q.sums) (stages_for q)
  pub found : current ≡ sse q.target (samples (less p a))
  pub behind : drop count index ≡ replicate (6 - count) 0

module _ {q : StageSearch} {a index : List ℕ} {count at p current : ℕ} (g : StagesGoing q a index count at p current) where
  -- what is there is what is handed back
  ended : left q count (less p a) ≡ [] → Searched q a (record { count = count; error = current; index = index })
  unfolding staged
  ended e =
      record {
        indices = sym (append-nil (take count index)) ∙ (rw e at g.indices);
        sums = ap (λ (b : ℕ). less b a) (sym g.biased) ∙ (rw e at g.sums);
        erring = g.found ∙ ap (λ (b : ℕ). sse q.target (samples (less b a))) g.biased;
        counted = g.within;
        six = g.six;
        behind = g.behind;
      }

  pub all_taken : q.terms.cap ≤ count → Searched q a (record { count = count; error = current; index = index })
  unfolding stages
  all_taken h =
      let m : q.terms.cap - count ≡ 0 = omega arith in
      ended (rw m)

  -- the next stage's best vector
  module _ (j e : ℕ) (more : count < q.terms.cap) (best : j ≡ argmin (vector_error q.target (less p a) q.codebook at) 15)
      (error : e ≡ vector_error q.target (less p a) q.codebook at j) where
    stage_left : q.terms.cap - count ≡ suc (q.terms.cap - (count + 1))
    stage_left = omega arith

    chosen : best_vector (vectors_for q) q.target count (less p a) ≡ j
    unfolding best_vector stage_error vectors_in vector_error
    chosen = sym (rw g.place at best)

    leaves : stage_error (vectors_for q) q.target count (less p a) j ≡ e
    unfolding stage_error vectors_in vector_error
    leaves = sym (rw g.place at error)

    -- it does not stay
    pub stopped : stays q.terms.margin current e ≡ false → Searched q a (record { count = count; error = current; index = index })
    unfolding stages
    stopped h = ended (rw (stage_left, stages, chosen, leaves, ← g.found, h))

    -- it is taken
    module _ (a' : List ℕ) (few : q.terms.cap ≤ 6) (kept : stays q.terms.margin current e ≡ true)
        (added : a' ≡ plus_n a (take (length a) (drop (at + length a * j) q.codebook))) (long : length a' ≡ length a)
        (grown : (i : ℕ) → get_or a' i 0 ≤ get_or a i 0 + 255) where
      next_sums : less (p + 128) a' ≡ plus (less p a) (vector q.codebook at (length q.target) j)
      next_sums = rw (added, g.same) (stage_sums q.codebook a at (length q.target) p j)

      next : left q count (less p a) ≡ j ∷ left q (count + 1) (less (p + 128) a')
      unfolding stages vectors_in
      next = rw (next_sums, stage_left, stages, chosen, leaves, ← g.found, kept, ← g.place, add-one)

      one_stage : (js : List ℕ) → staged (vectors_for q) count (less p a) (j ∷ js) ≡ staged (vectors_for q) (count + 1) (less (p + 128) a') js
      unfolding staged vectors_in
      one_stage js =
          ap₂ (λ (k : ℕ) (z : List ℤ). staged (vectors_for q) k z js) (sym (add-one count))
          (ap (λ (b : ℕ). plus (less p a) (vector q.codebook b (length q.target) j)) (sym g.place) ∙ sym next_sums)

      -- the zeros behind it are one fewer
      fewer : drop (count + 1) (set index count j) ≡ replicate (6 - (count + 1)) 0
      fewer =
          let n : 6 - count ≡ suc (6 - (count + 1)) = omega arith in
          let one = drop-cons index count 0 (omega (arith, g.six)) in
          let zeros = rw n at g.behind in
          let rest : drop (suc count) index ≡ replicate (6 - (count + 1)) 0 = cc in
          drop-set-lt (count + 1) index count j (omega arith) ∙ ap (λ (k : ℕ). drop k index) (add-one count) ∙ rest

      pub taken : StagesGoing q a' (set index count j) (count + 1) (at + length q.target * 16) (p + 128) e
      unfolding vector_error
      taken =
          record {
            within = omega arith;
            same = long ∙ g.same;
            six = length-set index count j ∙ g.six;
            place = omega (arith, g.place, next_part (length q.target * 16) count);
            biased = omega (arith, g.biased);
            low = λ i. omega (arith, g.low i, grown i);
            indices = rw (add-one, take-suc-set index count j (omega (arith, g.six)), append_assoc, ← add-one) (rw next at g.indices);
            sums = sym (one_stage (left q (count + 1) (less (p + 128) a'))) ∙ (rw next at g.sums);
            found = error ∙ ap (λ (z : List ℤ). sse q.target (samples z)) (sym next_sums);
            behind = fewer;
          }
