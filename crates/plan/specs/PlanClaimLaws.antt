-- The claim about plans holds, at any level, for every accepted call.
-- Assumes nothing.
use Rattle.std.proofs.Math.Path.{◌≡◌, refl, sym, ap}
use Rattle.std.proofs.Common.{◌∙◌, true≢false, arith, eqb-true, leb-true, ltb-true}
use Rattle.std.specs.Prelude.{Bool, not, ◌&&◌, List, ◌++◌, eqb, leb, ltb}
use Rattle.std.proofs.Math.Bool.{true, false}
use Prim.Native.Nat.{ℕ, zero, suc, ◌^◌, ◌≤◌, ◌<◌}
use Rattle.std.proofs.Math.ListN.{length}
use Rattle.bits.specs.Basics.{pick, Bytes, unless}
use Rattle.bits.specs.BasicsLaws.{both_true, or_none, unless-none}
use Rattle.code_tables.specs.Codes.{got}
use Rattle.book.specs.Book.{data_refusal}
use Rattle.book.specs.BookLaws.{GoodTables, good_tables, data_passes}
use Rattle.book.specs.Level.{width, area}
use Rattle.book.specs.declared.svq1_vlc.Svq1Half.TheVariants.{Inter}
use Rattle.leaf.specs.Leaf.{sse}
use Rattle.leaf.specs.LeafBits.{leaf_bits}
use Rattle.leaf.specs.LeafBitsLaws.{AllowedLeaf, leaf_most}
use Rattle.leaf.specs.LeafCall.{BlockIn, half_at, block_ok, block_refusal}
use Rattle.leaf.specs.LeafLaws.{SizedVectors, vectors_sized, rule_allowed}
use Rattle.leaf.specs.LeafLaws as leaf_laws
use Rattle.tree.specs.Blocks.{block_count, left, right, level, block_of}
use Rattle.tree.specs.BlocksLaws.{level_0, level_le, At, at_parts}
use Rattle.tree.specs.RowsLaws.{bytes_gather}
use Rattle.tree.specs.GeometryLaws.{In, at_first, in_first, in_parts, first-whole, length_block, error_most, error_is, pruned_shown, length_shown, bytes_shown}
use Rattle.tree.specs.Plan.{Weight, Planning, total, pruned, root, leaf_at, shown_at, weight_at, plan_weight, plan_splits, pruned_cost, planned}
use Rattle.plan.specs.PlanLaws.{Under, most_bits_lem, most_err, planned_under, optimal, room, own_plan, splits_zero}
use Rattle.tree.specs.TreeBits.{Split, Ends, plan_tree, tree_bits, read_tree, tree_shown}
use Rattle.plan.specs.PlanAnswer.{planning_of}
use Rattle.tree.specs.TreeLaws.{TreeStands}
use Rattle.tree.proofs.TreeLaws.{tree_read}
use Rattle.plan.specs.ChoiceLaws.{bits_are, shown_are}
use Rattle.plan.specs.PlanClaim.{largest_lambda, plan_cost, PlanClaimed}

-- what a plan may assume: tables of its terms' half that read back, vectors of their levels' sizes, a block and a predictor of bytes
pub record Planned (g : Planning) : Type 0 where
  pub tables : GoodTables g.tables
  pub sized : (d : ℕ) → SizedVectors (g.vectors d) (area d)
  pub same_half : g.tables.half ≡ g.terms.half
  pub few : g.terms.cap ≤ 6
  pub inter : g.terms.skip ≡ true → g.terms.half ≡ Inter
  pub five : g.level ≤ 5
  pub target_long : length g.target ≡ area g.level
  pub predictor_long : length g.predictor ≡ area g.level
  pub target_bytes : Bytes g.target
  pub predictor_bytes : Bytes g.predictor

module _ (g : Planning) (p : Planned g) where
  abbrev n : ℕ
  n = area g.level

  abbrev s : ℕ
  s = width g.level

  abbrev show : ℕ → List ℕ
  show i = shown_at g.vectors s g.predictor i (leaf_at g i)

  low : (i : ℕ) → 31 ≤ i → plan_splits g i ≡ false
  unfolding plan_splits
  low i h = splits_zero (weight_at g) g.lambda i (level_0 i h)

  pub allowed : (i : ℕ) → AllowedLeaf g.tables (level i) (leaf_at g i)
  unfolding leaf_at
  allowed i =
      rule_allowed g.tables (g.vectors (level i)) (level i) g.terms (block_of s (level i) i g.target) (block_of s (level i) i g.predictor) p.same_half
      p.few p.inter

  -- a block that lies in the plane shows as many samples as it has
  lens : (i : ℕ) → i < block_count → In s (level i) i n → length (show i) ≡ area (level i)
  unfolding shown_at
  lens i h o =
      let block = block_of s (level i) i g.predictor in
      let e : length block ≡ area (level i) = length_block s (level i) i g.predictor (rw p.predictor_long o) in
      leaf_laws.length_shown (g.vectors (level i)) block (leaf_at g i) (rw e (p.sized (level i))) ∙ e

  bytes_show : (i : ℕ) → Bytes (show i)
  unfolding shown_at block_of
  bytes_show i = leaf_laws.bytes_shown (g.vectors (level i)) (block_of s (level i) i g.predictor) (leaf_at g i) (bytes_gather s _ _ _ g.predictor p.predictor_bytes)

  errs : (i : ℕ) → (weight_at g i).err ≡ sse (block_of s (level i) i g.target) (show i)
  unfolding weight_at
  errs i = refl

  counts : (i : ℕ) → (weight_at g i).bits ≡ length (leaf_bits g.tables (level i) (leaf_at g i))
  unfolding weight_at
  counts i = refl

  -- the blocks that the plan can reach
  abbrev Ok : ℕ → ℕ → Type 0
  Ok d i = At d i × In s d i n

  ok_parts : (d i : ℕ) → Ok (suc d) i → Ok d (left i) × Ok d (right i)
  ok_parts d i o =
      let a = at_parts d i o.0 in
      let f : suc d ≤ 5 = rw o.0.0 at (level_le i) in
      let q = in_parts s d i o.0.0 f n o.1 in
      ((a.0, q.0), (a.1, q.1))

  small : (d i : ℕ) → Ok d i → Under 88 (2 ^ 24) (weight_at g i)
  small d i o =
      let e = level_le i in
      let at : In s (level i) i n = rw o.0.0 o.1 in (
        rw (counts i) (leaf_most g.tables p.tables (level i) (leaf_at g i) e (allowed i)),
        rw (errs i) (omega (arith, error_most s (level i) i g.target (show i) e p.target_bytes (bytes_show i) (lens i o.0.1 at))),
      )

  -- the same for every block that lies in the plane: what it weighs as a leaf and in the plan
  pub leaf_under : (i : ℕ) → i < block_count → In s (level i) i n → Under 88 (2 ^ 24) (weight_at g i)
  leaf_under i h o = small (level i) i ((refl, h), o)

  pub plan_under : (i : ℕ) → i < block_count → In s (level i) i n
      → Under (most_bits_lem 88 (level i)) (most_err (2 ^ 24) (level i)) (planned (weight_at g) g.lambda (level i) i)
  plan_under i h o = planned_under (weight_at g) g.lambda 88 (2 ^ 24) Ok ok_parts small (level i) i ((refl, h), o)

  ok_root : Ok g.level (root g)
  ok_root = (at_first g.level p.five, in_first g.level p.five)

  stands : (i : ℕ) (f : Bool) → plan_splits g i ≡ f → TreeStands g.tables (level i) (pick f Split (Ends (leaf_at g i)))
  unfolding plan_splits
  stands i false e = (level_le i, allowed i)
  stands i true e = go (level i) refl
    where
      go : (d : ℕ) → level i ≡ d → TreeStands g.tables d Split
      go zero q = let z : ◌≡◌ {A = ℕ} 0 1 = cc (splits_zero (weight_at g) g.lambda i q) in absurd (omega arith)
      go (suc d) q = tt

  -- what the plan weighs is what the pruning by its own splits weighs
  own : pruned (weight_at g) (plan_splits g) g.level (root g) ≡ plan_weight g
  unfolding plan_splits plan_weight
  own = own_plan (weight_at g) g.lambda g.level (root g) ok_root.0.0

  pub plan_bits : (plan_weight g).bits ≡ length (tree_bits g.tables (plan_tree g))
  unfolding plan_tree
  plan_bits = sym (bits_are g.level p.five (plan_splits g) (leaf_at g) low g.tables (weight_at g) counts ∙ ap (λ (w : Weight). w.bits) own)

  pub plan_shows : tree_shown g.vectors g.level g.predictor (plan_tree g) ≡ pruned_shown (plan_splits g) show g.level (root g)
  unfolding tree_shown plan_tree
  plan_shows = shown_are g.level p.five (plan_splits g) (leaf_at g) low (shown_at g.vectors s g.predictor) lens

  pub plan_error : (plan_weight g).err ≡ sse g.target (tree_shown g.vectors g.level g.predictor (plan_tree g))
  plan_error =
      let e = error_is s n (plan_splits g) show lens g.target p.target_long (weight_at g) (λ i h. errs i) g.level (root g) p.five ok_root.0.0 ok_root.0.1 ok_root.1 in
      sym (ap (λ (w : Weight). w.err) own) ∙ e ∙ rw (first-whole g.level g.target p.five p.target_long, plan_shows)

  least : g.lambda ≤ largest_lambda → (cut : ℕ → Bool) → total g.lambda (plan_weight g) ≤ pruned_cost g cut
  unfolding plan_weight pruned_cost
  least h cut =
      optimal (weight_at g) g.lambda 88 (2 ^ 24) Ok ok_parts small cut g.level (root g) ok_root (room g.lambda g.level h p.five)

  pub plan_cheapest : g.lambda ≤ largest_lambda → (cut : ℕ → Bool) → plan_cost g ≤ pruned_cost g cut
  unfolding plan_cost
  plan_cheapest h cut = rw (← plan_error, ← plan_bits) (least h cut)

  -- at most 2,847 bits for a macroblock
  pub plan_short : length (tree_bits g.tables (plan_tree g)) ≤ most_bits_lem 88 g.level
  unfolding plan_weight
  plan_short = rw (← plan_bits) (planned_under (weight_at g) g.lambda 88 (2 ^ 24) Ok ok_parts small g.level (root g) ok_root).0

  -- it shows as many samples as the block has, all of them bytes
  pub plan_long : length (tree_shown g.vectors g.level g.predictor (plan_tree g)) ≡ area g.level
  plan_long = ap length plan_shows ∙ length_shown s n (plan_splits g) show lens g.level (root g) p.five ok_root.0.0 ok_root.0.1 ok_root.1

  pub plan_bytes : Bytes (tree_shown g.vectors g.level g.predictor (plan_tree g))
  plan_bytes = rw plan_shows (bytes_shown (plan_splits g) show bytes_show g.level (root g))

  pub plan_reads : (rest : List ℕ) → read_tree g.tables g.level (tree_bits g.tables (plan_tree g) ++ rest) ≡ got (plan_tree g) rest
  unfolding plan_tree
  plan_reads rest = tree_read g.tables g.level (λ i. pick (plan_splits g i) Split (Ends (leaf_at g i))) p.tables (λ i h. stands i (plan_splits g i) refl) rest

-- ---- a call
skip_inter : (f : Bool) (h : ℕ) → not (f && eqb h 0) ≡ true → f ≡ true → half_at h ≡ Inter
skip_inter true zero e q = absurd (true≢false (sym e))
skip_inter true (suc h) e q = refl
skip_inter false h e q = absurd (true≢false (sym q))

-- an accepted call's plan may assume all of it
pub call_planned : (b : BlockIn) (lambda : ℕ) → Bytes b.target → Bytes b.predictor → block_refusal b ≡ 0 → Planned (planning_of b lambda)
unfolding block_refusal block_ok
call_planned b lambda bt bp e =
    let two = or_none (data_refusal b.book b.codebook) (unless (block_ok b) 8) e in
    let passes = data_passes b.book b.codebook two.0 in
    let known = ltb b.level 6 && ltb b.half 2 in
    let t = eqb (length b.target) (area b.level) in
    let q = eqb (length b.predictor) (area b.level) in
    let c = leb b.cap 6 in
    let k = not (b.allow_skip && eqb b.half 0) in
    let all = both_true (known && (t && q)) (c && k) (unless-none (block_ok b) 8 (omega arith) two.1) in
    let lens = both_true known (t && q) all.0 in
    let tq = both_true t q lens.1 in
    let ck = both_true c k all.1 in
    let lev = both_true (ltb b.level 6) (ltb b.half 2) lens.0 in
    record {
      tables = good_tables b.book passes.1 (half_at b.half);
      sized = vectors_sized b.codebook (half_at b.half);
      same_half = refl;
      few = leb-true b.cap 6 ck.0;
      inter = skip_inter b.allow_skip b.half ck.1;
      five = omega (arith, ltb-true b.level 6 lev.0);
      target_long = eqb-true (length b.target) (area b.level) tq.0;
      predictor_long = eqb-true (length b.predictor) (area b.level) tq.1;
      target_bytes = bt;
      predictor_bytes = bp;
    }

-- the claim about plans
pub plan_claimed : (b : BlockIn) (lambda : ℕ) → PlanClaimed b lambda
plan_claimed b lambda bt bp e =
    let g = planning_of b lambda in
    let p = call_planned b lambda bt bp e in
    record { bits = plan_bits g p; error = plan_error g p; no_pruning_cheaper = plan_cheapest g p; reads = plan_reads g p }
