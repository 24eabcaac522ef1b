-- Laws of the sum of one vector as a call: its refusals in order, and its answer.
-- Assumes nothing.
use Rattle.std.specs.Prelude.{ℕ, ◌≡◌, Bool, ◌&&◌}
use Rattle.std.proofs.Math.Path.{refl, sym}
use Rattle.std.proofs.Common.{ap, ◌∙◌, eq-eqb, ne_eqb}
use Rattle.std.proofs.Math.Bool.{true, false}
use Rattle.std.proofs.Math.Option.{Option}
use Rattle.bits.specs.Basics.{pick}
use Rattle.bits.specs.Refusals.{done, refused}
use Rattle.vectors.specs.declared.svq1_motion_predictor.Svq1Mv.{Svq1Mv}
use Rattle.vectors.specs.Vectors.{in_range, codable}
use Rattle.motion.specs.Search.{Search, in_window, allowed, search_refusal}
use Rattle.compensation.specs.declared.svq1_enc_inter.inner.VectorSum.{VectorSum}
use Rattle.compensation.specs.RowForms.{best_or_none}
use Rattle.motion.specs.declared.svq1_enc_inter.inner.Candidate.{Candidate}
use Rattle.motion.specs.Sum.{vector_sum, error_found, sum_or23, sum_answer}
use Rattle.motion.specs.CandidateForms.{lowered_mv, best_so_far}
use Rattle.motion.specs.CandidateFormsLaws.{found_is}
use Rattle.motion.specs.SearchCall.{Raised}

-- the sum against a best that is an error alone, as a candidate at any vector
pub sum_alone : (g : Search) (v : Svq1Mv) (b : Candidate) (s : VectorSum) → allowed g v ≡ true → s ≡ vector_sum g v (error_found (best_so_far b)) → done s ≡ sum_or23 g v (best_or_none b.error)
sum_alone g v b s h e = rw h (ap done (e ∙ ap (vector_sum g v) (found_is b)))

-- a raised vector is the vector
pub vector_is : (v : Svq1Mv) (ux uy : ℕ) → Raised v.x ux → Raised v.y uy → lowered_mv ux uy ≡ v
vector_is v ux uy a b = λ i. record { x = a.same i; y = b.same i }

module _ (g : Search) (v : Svq1Mv) (found : Option ℕ) where
  pub sum_refused : (n : ℕ) → n ≡ search_refusal g → (n ≡ 0 → ⊥) → refused n ≡ sum_answer g v found
  unfolding sum_answer
  sum_refused n e h = rw e (simp (ne_eqb (search_refusal g) 0 (λ q. h (e ∙ q))))

  sum_told : search_refusal g ≡ 0 → sum_or23 g v found ≡ sum_answer g v found
  unfolding sum_answer
  sum_told e = simp (eq-eqb (search_refusal g) 0 e)

  -- a component beyond -32..31 is not codable
  pub sum_beyond : search_refusal g ≡ 0 → (in_range v.x && in_range v.y) ≡ false → refused 23 ≡ sum_answer g v found
  unfolding allowed codable
  sum_beyond e h = sym (ap (λ (t : Bool). pick t (done (vector_sum g v found)) (refused 23)) (not_tried (in_range v.x) refl h)) ∙ sum_told e
    where
      ends_no : (a b : Bool) → b ≡ false → (a && b) ≡ false
      ends_no true b q = q
      ends_no false b q = refl

      not_tried : (t : Bool) → in_range v.x ≡ t → (t && in_range v.y) ≡ false → allowed g v ≡ false
      not_tried true q r =
          let x : Bool = codable g.predictor.x v.x && in_window g.side g.x g.width v.x in
          let y : Bool = codable g.predictor.y v.y && in_window g.side g.y g.height v.y in
          let no : y ≡ false = simp r in
          ends_no x y no
      not_tried false q r = simp q

-- over the spot that the call makes
pub spot_told : (s g : Search) (w v : Svq1Mv) (found : Option ℕ) → s ≡ g → w ≡ v → search_refusal g ≡ 0 → sum_or23 s w found ≡ sum_answer g v found
spot_told s g w v found a b e = rw (a, b) (sum_told g v found e)
