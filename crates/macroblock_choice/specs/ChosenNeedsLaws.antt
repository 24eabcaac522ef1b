-- Laws of the choice: a motion's candidate by its plan, the best of all motions, and the block of a source.
-- Assumes nothing.
use Rattle.std.specs.Prelude.{◌≡◌, refl, true, false, List, [], ◌∷◌, ℕ, ◌≤◌, length, Option, Some, None, IfSome}
use Rattle.std.proofs.Common.{sym, ap, ◌∙◌, true≢false, arith}
use Rattle.bits.specs.Basics.{pick, Bytes}
use Rattle.book.specs.Book.{tables_of}
use Rattle.book.specs.BookLaws.{good_tables, data_passes}
use Rattle.book.specs.declared.svq1_vlc.Svq1Half.{Svq1Half}
use Rattle.book.specs.declared.svq1_vlc.Svq1Half.TheVariants.{Intra, Inter}
use Rattle.leaf.specs.LeafLaws.{vectors_sized}
use Rattle.leaf.specs.declared.svq1_enc_leaf.LeafTerms.{LeafTerms}
use Rattle.vectors.specs.declared.svq1_motion_predictor.Svq1Mv.{Svq1Mv}
use Rattle.mv_cache.specs.Neighbours.{Near}
use Rattle.tree.specs.NodeForms.{tree_of}
use Rattle.tree.specs.Plan.{Planning, Weight}
use Rattle.plan.specs.PlanClaimLaws.{Planned, plan_bits, plan_error, plan_short}
use Rattle.tree.specs.TreeBits.{plan_tree, tree_bits}
use Rattle.macroblock_choice.specs.declared.svq1_enc_inter.inner.candidates.MbCandidate.{MbCandidate}
use Rattle.macroblock.specs.declared.svq1_enc_inter.Settings.{Settings}
use Rattle.macroblock.specs.declared.svq1_enc_inter.MbMotion.{MbMotion}
use Rattle.canvas.specs.declared.svq1_plane.Svq1PlaneCanvas.{Svq1PlaneCanvas}
use Rattle.macroblock.specs.Macroblock.{Given, Motion, skipped, coded, half_of, baseline, shown}
use Rattle.macroblock.specs.MacroblockLaws.{Fine, baseline_block}
use Rattle.macroblock.specs.Limit.{Limit, unlimited}
use Rattle.macroblock.specs.Choice.{Task, target_of, target, skips_leaves, plane_terms, planning_for, single_tried, four_tried}
use Rattle.macroblock.specs.MotionForms.{motion_of}
use Rattle.macroblock.specs.MacroblockNeeds.{given_by}
use Rattle.macroblock.specs.MacroblockNeedsLaws.{fits, book_passes}
use Rattle.macroblock_search.specs.declared.svq1_enc_inter.inner.motions.TriedMotion.{TriedMotion}
use Rattle.macroblock_search.specs.SearchNeeds.{Searching, motions_of, still_motion, MotionsFound}
use Rattle.macroblock_search.specs.TargetForms.{Sources}
use Rattle.macroblock_search.specs.TargetFormsLaws.{target_long}
use Rattle.macroblock_choice.specs.CandidateNeeds.{choice_of, Stated, CandidateOf, Tried}
use Rattle.macroblock_choice.specs.CandidateNeedsLaws.{coded_is, coded_stated, keeps, tried_one, chosen_is}
use Rattle.plan.specs.PlanNeeds.{PlanReady, PlanFound, planning_in}
use Rattle.plan.specs.declared.svq1_enc_tree.MbPlan.{MbPlan}
use Rattle.macroblock_choice.specs.ChosenNeeds.{task_in, planning_by, Placing, Sourced, Carries, Made, ChosenFor, ChosenBy}

-- ---- a motion's plan
bare : Task
bare = record { source = []; settings = record { lambda = 0; radius = 0; four = false; margin = 0 }; limit = unlimited }

module _ (g : Given) (raised : List ℕ) (k : ℕ) (block : List ℕ) (ready : Placing g raised k block) (bytes : Bytes block) (reference : Bytes g.reference.samples) (settings : Settings) (m : Motion) where
  fine : Fine g bare
  unfolding bare
  fine = record { book = book_passes g raised ready.ok; source_bytes = λ j. omega arith; reference_bytes = reference }

  inter_skips : (h : Svq1Half) → skips_leaves h ≡ true → h ≡ Inter
  inter_skips Intra e = absurd (true≢false (sym e))
  inter_skips Inter e = refl

  pub planned_by : Planned (planning_by g block settings k m)
  planned_by = record {
    tables = good_tables g.book (book_passes g raised ready.ok) (half_of m);
    sized = vectors_sized g.codebook (half_of m);
    same_half = refl;
    few = omega arith;
    inter = inter_skips (half_of m);
    five = omega arith;
    target_long = ready.whole;
    predictor_long = (baseline_block g bare fine k m).size;
    target_bytes = bytes;
    predictor_bytes = (baseline_block g bare fine k m).bytes;
  }

  -- what planning asks
  pub plan_ready : (terms : LeafTerms) (under : List ℕ) → terms ≡ plane_terms settings.margin (half_of m) → length under ≡ 256 → PlanReady terms g.book g.codebook raised 5 block under
  plan_ready terms under et eu = rw et (record {
    good = book_passes g raised ready.ok;
    whole = (data_passes g.book g.codebook ready.ok.tables).0;
    copy = ready.ok.copy;
    few = omega arith;
    inter = inter_skips (half_of m);
    five = omega arith;
    target_long = ready.whole;
    predictor_long = eu;
  })

  module _ (p : MbPlan) (found : PlanFound (planning_by g block settings k m) p) where
    pub plan_few : p.bits ≤ 65536
    plan_few =
        let e : p.bits ≡ length (tree_bits (tables_of g.book (half_of m)) (plan_tree (planning_by g block settings k m))) =
        ap (λ (w : Weight). w.bits) found.weighs ∙ plan_bits (planning_by g block settings k m) planned_by in
        omega (arith, plan_short (planning_by g block settings k m) planned_by)

    pub made_by : (n : Near) (motion : MbMotion) (vectors : List Svq1Mv) (r : MbCandidate) → m ≡ motion_of motion vectors → Carries n motion vectors
        → CandidateOf g.book n motion vectors p.blocks p.bits p.error r → Made g block settings k n m r
    unfolding shown
    made_by n motion vectors r em ev c =
        let is : choice_of r ≡ coded m (tree_of p.blocks) = rw em (coded_is g block k n motion vectors p.blocks p.bits p.error r c) in
        record {
          is = rw found.tree at is;
          stated = coded_stated g block k n motion vectors p.blocks p.bits p.error r c ev.stored ev.differs
              (rw (← em, found.tree) (ap (λ (w : Weight). w.bits) found.weighs ∙ plan_bits (planning_by g block settings k m) planned_by))
              (rw (← em, found.tree) (ap (λ (w : Weight). w.err) found.weighs ∙ plan_error (planning_by g block settings k m) planned_by));
        }

  -- by the block and by the source it is the same
  pub planned-same : (t : Task) → block ≡ target g t k → settings ≡ t.settings → planning_by g block settings k m ≡ planning_for g t k m
  unfolding planning_for
  planned-same t eb el = rw (eb, el)

  -- a plan by the terms and the baseline as they were computed
  pub found_by : (p : MbPlan) (terms : LeafTerms) (under : List ℕ) → terms ≡ plane_terms settings.margin (half_of m) → under ≡ baseline g k m
      → PlanFound (planning_in terms g.book g.codebook settings.lambda 5 block under) p → PlanFound (planning_by g block settings k m) p
  found_by p terms under et eu f = rw (et, eu) at f

  -- a motion that was found, if it is better
  pub try_one : (room : ℕ) (n : Near) (ms : List Motion) (c d r : MbCandidate) → ms ≡ m ∷ [] → Stated g block k n c → Made g block settings k n m d
      → r ≡ pick (keeps settings.lambda room c d) d c → Tried g block settings room k n ms c r
  try_one room n ms c d r e hc hd er =
      tried_one g block settings room k n m ms c d r e hc hd.stated
      (λ t eb el. hd.is ∙ ap (λ (x : Planning). coded m (plan_tree x)) (planned-same t eb el)) er

-- ---- all motions
pub searching : (v : Svq1PlaneCanvas) (reference book codebook raised : List ℕ) (k : ℕ) (block : List ℕ) → Placing (given_by v reference book codebook) raised k block
    → Searching v reference block k
searching v reference book codebook raised k block p =
    record { fits = fits (given_by v reference book codebook) raised p.ok; number = p.number; whole = p.whole }

-- a motion that was found carries its vectors
pub carried : {v : Svq1PlaneCanvas} {reference block : List ℕ} {radius k : ℕ} {n : Near} {ms : Given → Task → List Motion} (r : Option TriedMotion)
    → MotionsFound v reference block radius k n ms r → IfSome r (λ m. Carries n m.motion m.vectors)
carried (Some m) f = record { stored = f.stored; differs = f.differs }
carried None f = tt

module _ (v : Svq1PlaneCanvas) (reference book codebook block : List ℕ) (settings : Settings) (room k : ℕ) (n : Near) where
  abbrev plane : Given
  plane = given_by v reference book codebook

  pub chosen_for : (s a b r : MbCandidate) (one more : Option TriedMotion) (none : TriedMotion) → choice_of s ≡ skipped
      → MotionsFound v reference block settings.radius k n (λ g t. single_tried g t k n) one
      → none ≡ still_motion
      → MotionsFound v reference block settings.radius k n (λ g t. pick settings.four (four_tried g t k n) []) more
      → Tried plane block settings room k n (motions_of one) s a → Tried plane block settings room k n (motion_of none.motion none.vectors ∷ []) a b → Tried plane block settings room k n (motions_of more) b r
      → ChosenFor plane block settings room k n r
  chosen_for s a b r one more none es0 f1 f2 f3 ha hb hr = record {
    stated = hr.stated;
    is = λ t eb es.
        chosen_is plane block settings room k n t s a b r (motions_of one) (motion_of none.motion none.vectors ∷ []) (motions_of more) eb es es0 ha hb hr
        (f1.are book codebook t eb (ap (λ (x : Settings). x.radius) es)) (ap (λ (m : TriedMotion). motion_of m.motion m.vectors ∷ []) f2)
        (rw (ap (λ (x : Settings). x.four) es) at (f3.are book codebook t eb (ap (λ (x : Settings). x.radius) es)));
  }

-- ---- the block of a source
module _ (g : Given) (raised source : List ℕ) (k : ℕ) (p : Sourced g raised source k) where
  pub sources : Sources g.width g.height source k
  sources =
      let f = fits g raised p.ok in
      record {
        width_some = f.width.some;
        width_most = f.width.most;
        height_some = f.height.some;
        height_most = f.height.most;
        samples = p.samples;
        number = p.number;
      }

  pub block_placed : (block : List ℕ) → block ≡ target_of g.width g.height source k → Placing g raised k block
  block_placed block e = record { ok = p.ok; number = p.number; whole = ap length e ∙ target_long g.width g.height source k }

  pub chosen_by : (settings : Settings) (room : ℕ) (block : List ℕ) (n : Near) (r : MbCandidate) → block ≡ target_of g.width g.height source k
      → ChosenFor g block settings room k n r → (limit : Limit) → ChosenBy g (task_in source settings limit) room k n r
  chosen_by settings room block n r e h limit = record { stated = rw e at h.stated; is = h.is (task_in source settings limit) e refl }
