-- Laws of the searches for a macroblock: they are not refused, and what they find are the motions to try.
-- Assumes nothing.
use Rattle.std.specs.Prelude.{◌≡◌, refl, Option, Some, None, option_map, option_and_then, Result, Ok, Err, Bool, true, false, not, List, [], ◌∷◌, ℕ, ◌+◌, ◌*◌, ◌/◌, ◌%◌, ◌≤◌, ◌<◌, length}
use Rattle.std.specs.Result.{result_ok}
use Rattle.std.proofs.Common.{sym, ap, ◌∙◌, true≢false, arith, mod-lt, div-lt_iff_lt-mul}
use Rattle.bits.specs.Basics.{pick, All}
use Rattle.bits.specs.declared.refusal.Refusal.{Refusal}
use Rattle.bits.specs.Refusals.{done, refused, answer_of}
use Rattle.vectors.specs.declared.svq1_motion_predictor.Svq1Mv.{Svq1Mv}
use Rattle.vectors.specs.Vectors.{difference_mv}
use Rattle.vectors.specs.VectorsLaws.{Codable, Inside}
use Rattle.mv_cache.specs.Neighbours.{Near, for_one, for_first, for_second, for_third, for_fourth}
use Rattle.motion.specs.Search.{Search, searched, vector_answer}
use Rattle.canvas.specs.Canvas.{largest_side, blocks_along}
use Rattle.motion.specs.SearchCallLaws.{Passes, answer_searched}
use Rattle.motion.specs.SearchLaws.{found}
use Rattle.motion.specs.Search as motion_search
use Rattle.tree_samples.specs.RowForms.{Rows}
use Rattle.macroblock_search.specs.declared.svq1_enc_inter.inner.motions.TriedMotion.{TriedMotion}
use Rattle.macroblock_search.specs.declared.svq1_enc_inter.inner.searches.VectorPair.{VectorPair}
use Rattle.canvas.specs.declared.svq1_plane.Svq1PlaneCanvas.{Svq1PlaneCanvas}
use Rattle.macroblock.specs.Macroblock.{Given, Motion, still, four}
use Rattle.macroblock.specs.MacroblockLaws.{Codables}
use Rattle.macroblock.specs.Choice.{Task, if_found, single_tried, four_tried}
use Rattle.macroblock.specs.MotionForms.{motion_of}
use Rattle.macroblock_search.specs.SearchNeeds.{search_by, whole_by, quarter_by, Cornered, Searching, pair_searched, motions_of, still_motion, one_motion, four_motion, MotionsFound}

-- ---- a test that is turned round
pub was_off : (b : Bool) → not b ≡ true → b ≡ false
was_off true e = absurd (true≢false (sym e))
was_off false e = refl

pub was_on : (b : Bool) → not b ≡ false → b ≡ true
was_on true e = refl
was_on false e = absurd (true≢false e)

-- ---- the searches pass
module _ (c : Svq1PlaneCanvas) (reference block : List ℕ) (k : ℕ) (s : Searching c reference block k) where
  pub cornered : Cornered c k
  cornered = record { width_some = s.fits.width.some; width_most = s.fits.width.most; height_most = s.fits.height.most; number = s.number }

  wide : 0 < blocks_along c.width
  wide = omega (arith, s.fits.width)

  across : 16 * (k % blocks_along c.width) + 16 ≤ c.stride
  across = omega (arith, s.fits.stride, mod-lt k wide)

  down : 16 * (k / blocks_along c.width) + 16 ≤ c.rows
  down =
      let q : k / blocks_along c.width < blocks_along c.height = (div-lt_iff_lt-mul wide).1 s.number in
      omega (arith, s.fits.rows)

  pub whole_passes : (x y : ℕ) (p : Svq1Mv) (radius : ℕ) → x ≡ 16 * (k % blocks_along c.width) → y ≡ 16 * (k / blocks_along c.width) → Inside p
      → Passes (search_by c reference block 16 x y p radius)
  whole_passes x y p radius ex ey h = record {
    fits = s.fits;
    side = refl;
    x_grid = omega arith;
    y_grid = omega arith;
    x_in = omega (arith, across);
    y_in = omega (arith, down);
    target = s.whole;
    px = h.x_in;
    py = h.y_in;
  }

  pub quarter_passes : (j x y : ℕ) (part : List ℕ) (p : Svq1Mv) (radius : ℕ) → x ≡ 16 * (k % blocks_along c.width) → y ≡ 16 * (k / blocks_along c.width) → j < 4 → length part ≡ 64 → Inside p
      → Passes (search_by c reference part 8 (x + 8 * (j % 2)) (y + 8 * (j / 2)) p radius)
  quarter_passes j x y part p radius ex ey hj e h = record {
    fits = s.fits;
    side = refl;
    x_grid = omega arith;
    y_grid = omega arith;
    x_in = omega (arith, across);
    y_in = omega (arith, down);
    target = e;
    px = h.x_in;
    py = h.y_in;
  }

  -- the rows of an 8×8 block
  pub quarter_rows : (j n : ℕ) → j < 4 → n ≡ 64 → Rows 16 8 8 (128 * (j / 2) + 8 * (j % 2)) (length block) n
  quarter_rows j n hj e = record {
    inside = record { row = λ i l. omega (arith, s.whole) };
    run = e;
    small = omega (arith, s.whole);
    begins = omega arith;
    apart = omega arith;
    wide = omega arith;
    long = omega arith;
  }

pub corner_small : (c : Svq1PlaneCanvas) (k : ℕ) → Cornered c k → (0 < blocks_along c.width) × (k % blocks_along c.width < blocks_along largest_side) × (k / blocks_along c.width < blocks_along largest_side)
corner_small c k h =
    let w : 0 < blocks_along c.width = omega (arith, h.width_some) in
    let q : k / blocks_along c.width < blocks_along c.height = (div-lt_iff_lt-mul w).1 h.number in
    (w, omega (arith, h.width_most, mod-lt k w), omega (arith, h.height_most))

-- ---- a search's answer
by_answer : (o : Option Svq1Mv) (v : Svq1Mv) → done v ≡ vector_answer o → Some v ≡ o
by_answer None v e = let z : ◌≡◌ {A = ℕ} 0 1 = cc in absurd (omega arith)
by_answer (Some u) v e = let q : v ≡ u = cc in ap Some q

by_refusal : (o : Option Svq1Mv) (n : ℕ) → refused n ≡ vector_answer o → None ≡ o
by_refusal None n e = refl
by_refusal (Some u) n e = let z : ◌≡◌ {A = ℕ} 0 1 = cc in absurd (omega arith)

module _ (g : Search) (p : Passes g) (s : Result Svq1Mv Refusal) (e : answer_of s ≡ motion_search.search_answer g) where
  pub found_vector : (v : Svq1Mv) → s ≡ Ok v → Some v ≡ searched g
  found_vector v q = by_answer (searched g) v (sym (ap answer_of q) ∙ e ∙ answer_searched g p)

  pub found_none : (r : Refusal) → s ≡ Err r → None ≡ searched g
  found_none r q = by_refusal (searched g) _ (sym (ap answer_of q) ∙ e ∙ answer_searched g p)

pub found_ok : (g : Search) (s : Result Svq1Mv Refusal) → Passes g → answer_of s ≡ motion_search.search_answer g → result_ok s ≡ searched g
found_ok g (Ok v) p e = found_vector g p (Ok v) e v refl
found_ok g (Err r) p e = found_none g p (Err r) e r refl

-- ---- what was found by it
pub found_codes : (g : Search) (v : Svq1Mv) → Some v ≡ searched g → Codable g.predictor v
found_codes g v e = (found g v (sym e)).codes

-- a second search behind a first
abbrev for_pair : (Svq1Mv → Svq1Mv → List Motion) → Option VectorPair → List Motion
for_pair h None = []
for_pair h (Some p) = h p.first p.second

abbrev paired : Option Svq1Mv → (Svq1Mv → Option Svq1Mv) → Option VectorPair
paired x y = option_and_then (λ a. option_map (λ b. record { first = a; second = b }) (y a)) x

with_second : (a : Svq1Mv) (z : Option Svq1Mv) (h : Svq1Mv → Svq1Mv → List Motion) → if_found z (h a) ≡ for_pair h (option_map (λ b. record { first = a; second = b }) z)
with_second a None h = refl
with_second a (Some b) h = refl

with_both : (x : Option Svq1Mv) (y : Svq1Mv → Option Svq1Mv) (h : Svq1Mv → Svq1Mv → List Motion) → if_found x (λ a. if_found (y a) (h a)) ≡ for_pair h (paired x y)
with_both None y h = refl
with_both (Some a) y h = with_second a (y a) h

second_found : (a : Svq1Mv) (z : Option Svq1Mv) (p : VectorPair) → Some p ≡ option_map (λ b. record { first = a; second = b }) z → (a ≡ p.first) × (Some p.second ≡ z)
second_found a None p e = let z : ◌≡◌ {A = ℕ} 0 1 = cc in absurd (omega arith)
second_found a (Some b) p e = let q : ◌≡◌ {A = VectorPair} p (record { first = a; second = b }) = cc in (sym (ap (λ (r : VectorPair). r.first) q), ap (λ (r : VectorPair). Some r.second) q)

both_found : (x : Option Svq1Mv) (y : Svq1Mv → Option Svq1Mv) (p : VectorPair) → Some p ≡ paired x y → (Some p.first ≡ x) × (Some p.second ≡ y p.first)
both_found None y p e = let z : ◌≡◌ {A = ℕ} 0 1 = cc in absurd (omega arith)
both_found (Some a) y p e = let q = second_found a (y a) p e in (ap Some (sym q.0), q.1 ∙ ap y q.0)

module _ (s : Search) (u : Svq1Mv → Search) where
  pub pair_none : None ≡ searched s → None ≡ pair_searched s u
  unfolding pair_searched
  pair_none e = rw (← e)

  pub pair_no_second : (v : Svq1Mv) → Some v ≡ searched s → None ≡ searched (u v) → None ≡ pair_searched s u
  unfolding pair_searched
  pair_no_second v e h = rw (← e, ← h)

  pub pair_both : (v w : Svq1Mv) → Some v ≡ searched s → Some w ≡ searched (u v) → Some (record { first = v; second = w }) ≡ pair_searched s u
  unfolding pair_searched
  pair_both v w e h = rw (← e, ← h)

  -- what goes on with both, and with none
  pub pair_is : (o : Option VectorPair) → o ≡ pair_searched s u → (h : Svq1Mv → Svq1Mv → List Motion)
      → if_found (searched s) (λ a. if_found (searched (u a)) (h a)) ≡ for_pair h o
  unfolding pair_searched
  pair_is o e h = rw e (with_both (searched s) (λ a. searched (u a)) h)

  pub pair_codes : (p : VectorPair) → Some p ≡ pair_searched s u → Codable s.predictor p.first × Codable (u p.first).predictor p.second
  unfolding pair_searched
  pair_codes p e =
      let q = both_found (searched s) (λ a. searched (u a)) p e in
      (found_codes s p.first q.0, found_codes (u p.first) p.second q.1)

-- ---- the motions
module _ (c : Svq1PlaneCanvas) (reference block : List ℕ) (radius k : ℕ) (n : Near) where
  pub moves_still : MotionsFound c reference block radius k n (λ g t. still ∷ []) (Some still_motion)
  moves_still = record { are = λ book codebook t e q. refl; codes = (tt, tt); stored = refl; differs = tt }

  pub moves_off : MotionsFound c reference block radius k n (λ g t. []) None
  moves_off = record { are = λ book codebook t e q. refl; codes = tt; stored = tt; differs = tt }

  abbrev whole : Search
  whole = whole_by c reference block k (for_one n) radius

  pub moves_single : (v : Svq1Mv) → Some v ≡ searched whole → MotionsFound c reference block radius k n (λ g t. single_tried g t k n) (Some (one_motion v (difference_mv (for_one n) v)))
  unfolding single_tried
  moves_single v e = record {
    are = λ book codebook t eb er. rw (← eb, ← er, ← e);
    codes = (found_codes whole v e, tt);
    stored = refl;
    differs = refl;
  }

  pub moves_none : None ≡ searched whole → MotionsFound c reference block radius k n (λ g t. single_tried g t k n) None
  unfolding single_tried
  moves_none e = record {
    are = λ book codebook t eb er. rw (← eb, ← er, ← e);
    codes = tt;
    stored = tt;
    differs = tt;
  }

  -- four vectors, by two pairs
  abbrev quarter : ℕ → Svq1Mv → Search
  quarter j p = quarter_by c reference block k j p radius

  abbrev upper : Option VectorPair
  upper = pair_searched (quarter 0 (for_first n)) (λ a. quarter 1 (for_second n a))

  abbrev lower : VectorPair → Option VectorPair
  lower p = pair_searched (quarter 2 (for_third n p.first p.second)) (λ d. quarter 3 (for_fourth p.first p.second d))

  abbrev behind : Svq1Mv → Svq1Mv → List Motion
  behind a b = if_found (searched (quarter 2 (for_third n a b))) (λ d. if_found (searched (quarter 3 (for_fourth a b d))) (λ e. four a b d e ∷ []))

  pub moves_no_first : None ≡ upper → MotionsFound c reference block radius k n (λ g t. four_tried g t k n) None
  unfolding four_tried
  moves_no_first e = record { are = λ book codebook t eb er. rw (← eb, ← er) (sym (pair_is _ _ None e behind)); codes = tt; stored = tt; differs = tt }

  pub moves_no_second : (p : VectorPair) → Some p ≡ upper → None ≡ lower p → MotionsFound c reference block radius k n (λ g t. four_tried g t k n) None
  unfolding four_tried
  moves_no_second p e h = record {
    are = λ book codebook t eb er. rw (← eb, ← er) (sym (pair_is _ _ (Some p) e behind ∙ pair_is _ _ None h (λ d f. four p.first p.second d f ∷ [])));
    codes = tt;
    stored = tt;
    differs = tt;
  }

  pub moves_four : (p q : VectorPair) → Some p ≡ upper → Some q ≡ lower p → MotionsFound c reference block radius k n (λ g t. four_tried g t k n) (Some (four_motion p q))
  unfolding four_tried
  moves_four p q e h =
      let a = pair_codes _ _ p e in
      let b = pair_codes _ _ q h in
      record {
        are = λ book codebook t eb er. rw (← eb, ← er) (sym (pair_is _ _ (Some p) e behind ∙ pair_is _ _ (Some q) h (λ d f. four p.first p.second d f ∷ [])));
        codes = ((a.0, a.1, b.0, b.1), tt);
        stored = refl;
        differs = tt;
      }

  -- by the flag
  pub moves_flag : (f : Bool) (ms : Given → Task → List Motion) (r : Option TriedMotion) → f ≡ true → MotionsFound c reference block radius k n ms r
      → MotionsFound c reference block radius k n (λ g t. pick f (ms g t) []) r
  moves_flag f ms r e h = record { are = λ book codebook t eb er. rw e (h.are book codebook t eb er); codes = h.codes; stored = h.stored; differs = h.differs }

  pub moves_flag_off : (f : Bool) (ms : Given → Task → List Motion) → f ≡ false → MotionsFound c reference block radius k n (λ g t. pick f (ms g t) []) None
  moves_flag_off f ms e = record { are = λ book codebook t eb er. rw e; codes = tt; stored = tt; differs = tt }

-- ---- a motion to try, or none
pub motions_one : (m : TriedMotion) → motions_of (Some m) ≡ motion_of m.motion m.vectors ∷ []
motions_one m = refl

pub motions_none : motions_of None ≡ []
motions_none = refl

pub all_found : (n : Near) (m : TriedMotion) → All (Codables n) (motions_of (Some m)) → Codables n (motion_of m.motion m.vectors)
all_found n m h = h.0
