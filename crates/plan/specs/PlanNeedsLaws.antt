-- Laws of the plan's code: one leaf by the codebook, and the tree that the planned blocks make.
-- Assumes nothing.
use Rattle.std.specs.Prelude.{◌≡◌, Bool, true, false, ◌||◌, List, [], ◌∷◌, ◌++◌, ◌⊎◌, eqb, length, get_or, set, replicate}
use Rattle.std.proofs.Math.Path.{refl}
use Rattle.std.proofs.Common.{sym, ap, ◌∙◌, true≢false, arith, ⊎_elim, inl, inr, eqb-true, length-set}
use Prim.Native.Nat.{ℕ, zero, suc, ◌+◌, ◌*◌, ◌/◌, ◌≤◌, ◌<◌}
use Rattle.std.proofs.Math.Decide.{ℕ_discrete}
use Rattle.bits.specs.Basics.{pick, Bytes, All}
use Rattle.book.specs.Book.{tables_of}
use Rattle.book.specs.BookLaws.{good_tables}
use Rattle.book.specs.Level.{width, area}
use Rattle.codebook.specs.CodebookForms.{page_start}
use Rattle.leaf.specs.LeafNeeds.{LeafFound}
use Rattle.leaf.specs.AgreeLaws.{leaf_found}
use Rattle.leaf.specs.Leaf.{leaf_shown}
use Rattle.leaf.specs.LeafBits.{leaf_bits}
use Rattle.leaf.specs.LeafLaws.{vectors_sized}
use Rattle.leaf.specs.LentNeedsLaws.{skip_clean}
use Rattle.leaf.specs.declared.svq1_enc_leaf.LeafCode.TheVariants.{Skip}
use Rattle.leaf.specs.declared.svq1_enc_leaf.LeafTerms.{LeafTerms}
use Rattle.leaf_search.specs.LevelLeafNeeds.{LevelChosen}
use Rattle.leaf.specs.LeafForms.{leaf_of, vectors_in}
use Rattle.codebook.specs.CodebookFormsLaws.{raised-length}
use Rattle.leaf_search.specs.declared.svq1_enc_leaf.LeafChoice.{LeafChoice}
use Rattle.tree.specs.Blocks.{block_count, left, right, level, first, block_of}
use Rattle.tree.specs.GeometryLaws.{length_block, at_first}
use Rattle.tree.specs.Plan.{Planning, leaf_at, shown_at, weight_at, plan_splits, plan_weight}
use Rattle.plan.specs.PlanClaimLaws as claim
use Rattle.bits.specs.ListLaws.{all_set, all_repeat}
use Rattle.plan.specs.PlannedForms.{weigh, Light, CleanChoice, decided}
use Rattle.plan.specs.PlannedFormsLaws.{blank, LeafAt, PlannedAt, Done, one_block, no_block, leaf_light, planned_light, parts_planned}
use Rattle.tree_samples.specs.SubtreeForms.{in_tree}
use Rattle.tree_samples.specs.SubtreeFormsLaws.{in_plane, tree_parts, tree-root}
use Rattle.tree.specs.TreeBits.{Node, Off, Split, Ends, is_split, reached, grow, plan_tree}
use Rattle.tree.specs.TreeLaws.{grown}
use Rattle.tree.specs.NodeForms.{tree_of, CleanBlock}
use Rattle.plan.specs.PlanNeeds.{BlockReady, LeafReady, BlockLeaf, PlanReady, planning_in, leaf_record, planned_node, PlanFound}
use Rattle.tree.specs.declared.svq1_enc_tree.Block.{Block}
use Rattle.plan.specs.declared.svq1_enc_tree.PlannedBlock.{PlannedBlock}

-- ---- one leaf
-- the search of the two gathered blocks at level l is that of block i
pub block_leaf : (terms : LeafTerms) (raised : List ℕ) (d : ℕ) (target predictor : List ℕ) (i l : ℕ) (t p out shown : List ℕ) (r : LeafChoice)
    → l ≡ level i → length t ≡ area (level i) → t ≡ block_of (width d) (level i) i target → p ≡ block_of (width d) (level i) i predictor
    → LevelChosen terms l t p raised r out shown → BlockLeaf terms raised d target predictor i r
block_leaf terms raised d target predictor i l t p out shown r el n et ep c =
    record {
      leaf = rw (n, el, et, ep) at c.chosen.leaf;
      erring = rw (n, el, et, ep) at c.chosen.erring;
      clean = c.chosen.clean;
    }

module _ (terms : LeafTerms) (book codebook raised : List ℕ) (d : ℕ) (target predictor : List ℕ) where
  pub leaf_ready : (i : ℕ) → PlanReady terms book codebook raised d target predictor → BlockReady d i
      → LeafReady terms (length raised) d (length target) (length predictor) i
  leaf_ready i p b =
      record {
        copied = ap length p.copy ∙ raised-length codebook;
        few = p.few;
        five = p.five;
        target_long = p.target_long;
        predictor_long = p.predictor_long;
        here = b;
      }

  -- what a plan may assume
  pub plan_ready : (lambda : ℕ) → PlanReady terms book codebook raised d target predictor → Bytes target → Bytes predictor
      → claim.Planned (planning_in terms book codebook lambda d target predictor)
  plan_ready lambda p bt bp =
      record {
        tables = good_tables book p.good terms.half;
        sized = vectors_sized codebook terms.half;
        same_half = refl;
        few = p.few;
        inter = p.inter;
        five = p.five;
        target_long = p.target_long;
        predictor_long = p.predictor_long;
        target_bytes = bt;
        predictor_bytes = bp;
      }

  module _ (i : ℕ) (r : LeafChoice) (p : PlanReady terms book codebook raised d target predictor) (here : BlockReady d i) (bytes : Bytes codebook)
      (l : BlockLeaf terms raised d target predictor i r) where
    abbrev block_in : List ℕ → List ℕ
    block_in = block_of (width d) (level i) i

    -- a leaf by the raised copy is one by the codebook
    pub leaf_by : LeafFound codebook terms (level i) (block_in target) (block_in predictor) r.code r.stages r.error
        (leaf_shown (vectors_in raised (page_start terms.half (level i)) (area (level i))) (block_in predictor) (leaf_of r.code r.stages))
    leaf_by =
        let size : length (block_in target) ≡ area (level i) =
        length_block (width d) (level i) i target (rw p.target_long (in_plane d i p.five here.block here.under)) in
        leaf_found codebook bytes terms (level i) (block_in target) (block_in predictor) r.code r.stages r.error _ p.few size
        (rw (← p.copy, size) (record { leaf = l.leaf; erring = l.erring; shown = ap (leaf_shown (vectors_in raised (page_start terms.half (level i)) (area (level i))) (block_in predictor)) l.leaf; clean = l.clean }))

    pub leaf_at_lem : (n : ℕ) → n ≡ length (leaf_bits (tables_of book terms.half) (level i) (leaf_of r.code r.stages))
        → LeafAt (planning_in terms book codebook 0 d target predictor) i (leaf_record r.code r.stages n r.error)
    unfolding leaf_at weight_at shown_at
    leaf_at_lem n e =
        let f = leaf_by in
        record {
          leaf = f.leaf;
          whole = refl;
          weighs = rw (e, f.erring, f.leaf);
          clean = f.clean;
        }

-- lambda plays no part in a leaf
pub leaf_any : (terms : LeafTerms) (book codebook : List ℕ) (lambda d : ℕ) (target predictor : List ℕ) (i : ℕ) (b : PlannedBlock)
    → LeafAt (planning_in terms book codebook 0 d target predictor) i b → LeafAt (planning_in terms book codebook lambda d target predictor) i b
unfolding leaf_at weight_at shown_at
leaf_any terms book codebook lambda d target predictor i b l = record { leaf = l.leaf; whole = l.whole; weighs = l.weighs; clean = l.clean }

-- ---- every block, the last first
-- the blocks from i on are planned, and every record's leaf choice has its one form
pub record Filling (g : Planning) (a : List PlannedBlock) (i : ℕ) : Type 0 where
  pub upto : i ≤ block_count
  pub long : length a ≡ block_count
  pub done : Done g a i
  pub clean : All CleanChoice a

module _ (g : Planning) where
  pub fill_begins : (a : List PlannedBlock) → a ≡ replicate block_count (leaf_record Skip (replicate 6 0) 0 0) → Filling g a block_count
  fill_begins a e =
      record {
        upto = omega arith;
        long = ap length e;
        done = λ k l u t. absurd (omega arith);
        clean = rw e (all_repeat CleanChoice block_count (leaf_record Skip (replicate 6 0) 0 0) (skip_clean (replicate 6 0) refl));
      }

  module _ (a : List PlannedBlock) (j i : ℕ) (f : Filling g a j) (e : j ≡ i + 1) where
    pub fill_behind : Done g a (i + 1)
    fill_behind = rw (← e) f.done

    pub fill_passed : in_tree g.level i ≡ false → Filling g a i
    fill_passed n = record { upto = omega (arith, f.upto); long = f.long; done = no_block g a i n fill_behind; clean = f.clean }

    pub fill_taken : (b : PlannedBlock) → PlannedAt g i b → Filling g (set a i b) i
    fill_taken b q =
        record {
          upto = omega (arith, f.upto);
          long = length-set a i b ∙ f.long;
          done = one_block g a i b (omega (arith, f.upto, f.long)) fill_behind q;
          clean = all_set CleanChoice a i b q.clean f.clean;
        }

  pub fill_ends : (a : List PlannedBlock) (i : ℕ) → Filling g a i → i ≤ 0 → Done g a 0
  fill_ends a i f h k l = f.done k (omega arith)

  -- ---- one block, where those behind it are planned
  module _ (p : claim.Planned g) (i : ℕ) (here : BlockReady g.level i) (a : List PlannedBlock) (done : Done g a (i + 1)) (low : i < 31) where
    abbrev first_part : PlannedBlock
    first_part = get_or a (2 * i + 1) blank

    abbrev second-part : PlannedBlock
    second-part = get_or a (2 * i + 2) blank

    parts_in : (in_tree g.level (left i) ≡ true) × (in_tree g.level (right i) ≡ true)
    parts_in = tree_parts g.level i p.five low here.under

    first-planned : PlannedAt g (left i) first_part
    first-planned = done (left i) (omega arith) (omega arith) parts_in.0

    second_planned : PlannedAt g (right i) second-part
    second_planned = done (right i) (omega arith) (omega arith) parts_in.1

    pub parts_light : (l : PlannedBlock) → LeafAt g i l → Light l × Light first_part × Light second-part
    parts_light l q = (
      leaf_light g p i l here.block here.under q,
      planned_light g p (left i) first_part (omega arith) parts_in.0 first-planned,
      planned_light g p (right i) second-part (omega arith) parts_in.1 second_planned,
    )

    pub block_planned : (l : PlannedBlock) → LeafAt g i l → PlannedAt g i (decided g.lambda l first_part second-part)
    block_planned l q = parts_planned g i l first_part second-part low q first-planned second_planned

-- ---- the planned blocks make the plan's tree
module _ (d : ℕ) (five : d ≤ 5) where
  part_of : (j : ℕ) → j < 62 → in_tree d (j / 2) ≡ true → in_tree d (suc j) ≡ true
  part_of j h t = go (ℕ_discrete (suc j) (left (j / 2)))
    where
      both : (in_tree d (left (j / 2)) ≡ true) × (in_tree d (right (j / 2)) ≡ true)
      both = tree_parts d (j / 2) five (omega arith) t

      go : Dec (suc j ≡ left (j / 2)) → in_tree d (suc j) ≡ true
      go (yes e) = rw e both.0
      go (no e) =
          let q : suc j ≡ right (j / 2) = omega (arith, e) in
          rw q both.1

  either : (x y : Bool) → x || y ≡ true → (x ≡ true) ⊎ (y ≡ true)
  either true y e = inl refl
  either false y e = inr e

  was_reached : (f : Bool) (x : Node) → is_split (pick f x Off) ≡ true → f ≡ true
  was_reached true x e = refl
  was_reached false x e = absurd (true≢false (sym e))

  module _ (choose : ℕ → Node) (n : ℕ) (n-most : n ≤ block_count) where
    abbrev t : List Node
    t = grow (first d) choose n

    -- a block reached from one that lies under the root lies under it
    step : (j : ℕ) → suc j ≤ n → suc j < block_count → (reached (first d) t (j / 2) ≡ true → in_tree d (j / 2) ≡ true) → reached (first d) t (suc j) ≡ true → in_tree d (suc j) ≡ true
    step j b h up e = ⊎_elim at_root below_root (either (eqb (suc j) (first d)) (is_split (get_or t (j / 2) Off)) e)
      where
        at_root : eqb (suc j) (first d) ≡ true → in_tree d (suc j) ≡ true
        at_root q = rw (eqb-true (suc j) (first d) q) (tree-root d five)

        below_root : is_split (get_or t (j / 2) Off) ≡ true → in_tree d (suc j) ≡ true
        below_root q =
            part_of j (omega arith) (up (was_reached (reached (first d) t (j / 2)) (choose (j / 2)) (rw (grown (first d) choose n (j / 2) (omega arith)) at q)))

    -- what is reached lies under the root; f is above i
    under_root : (f i : ℕ) → i < f → i ≤ n → i < block_count → reached (first d) t i ≡ true → in_tree d i ≡ true
    under_root zero i a b h e = absurd (omega arith)
    under_root (suc f) zero a b h e = rw (eqb-true zero (first d) e) (tree-root d five)
    under_root (suc f) (suc j) a b h e = step j b h (under_root f (j / 2) (omega arith) (omega arith) (omega arith)) e

  same-pick : (f : Bool) (x y : Node) → (f ≡ true → x ≡ y) → pick f x Off ≡ pick f y Off
  same-pick true x y e = e refl
  same-pick false x y e = refl

  grow-same : (c u : ℕ → Node) → ((i : ℕ) → i < block_count → in_tree d i ≡ true → c i ≡ u i) → (n : ℕ) → n ≤ block_count → grow (first d) c n ≡ grow (first d) u n
  unfolding grow
  grow-same c u e zero h = refl
  grow-same c u e (suc n) h =
      let before = grow-same c u e n (omega arith) in
      rw before
      (ap (λ (x : Node). grow (first d) u n ++ (x ∷ []))
      (same-pick (reached (first d) (grow (first d) u n) n) (c n) (u n) (λ q. e n (omega arith) (under_root u n (omega arith) (suc n) n (omega arith) (omega arith) (omega arith) q))))

pub plan_found : (g : Planning) → g.level ≤ 5 → (a : List PlannedBlock) → Done g a 0 → (r : ℕ) → r ≡ first g.level → (bs : List Block)
    → tree_of bs ≡ grow r (λ i. planned_node (get_or a i blank)) block_count → All CleanBlock bs
    → PlanFound g (record { bits = (get_or a r blank).bits; error = (get_or a r blank).error; blocks = bs })
unfolding plan_tree plan_weight
plan_found g five a done r is-root bs e c =
    let q = done (first g.level) (omega arith) (at_first g.level five).1 (tree-root g.level five) in
    record {
      tree = e ∙ ap (λ (k : ℕ). grow k (λ i. planned_node (get_or a i blank)) block_count) is-root
          ∙ grow-same g.level five (λ i. planned_node (get_or a i blank)) (λ i. pick (plan_splits g i) Split (Ends (leaf_at g i))) same_node block_count (omega arith);
      weighs = ap (λ (k : ℕ). weigh (get_or a k blank)) is-root ∙ rw (at_first g.level five).0 at q.weighs;
      clean = c;
    }
  where
    same_node : (i : ℕ) → i < block_count → in_tree g.level i ≡ true → planned_node (get_or a i blank) ≡ pick (plan_splits g i) Split (Ends (leaf_at g i))
    same_node i h u = let w = done i (omega arith) h u in rw (w.split, w.leaf)
