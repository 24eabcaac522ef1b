-- Laws of one macroblock: every mode tried is read back from its bits, shows a block of bytes and saturates no cost; none is cheaper than the one chosen.
-- Assumes nothing.
use Rattle.std.specs.Prelude.{Option, Some, None, ◌≡◌, Bool, true, false, ℕ, zero, suc, ◌*◌, ◌^◌, ◌≤◌, ◌<◌, replicate}
use Rattle.std.proofs.Math.Path.{refl}
use Rattle.std.proofs.Common.{ap, ◌∙◌}
use mathlib.Core.List.{List, [], ◌++◌, append_assoc}
use native.Mathlib.Omega.{arith}
use Rattle.std.proofs.Math.Nat.{mul-le-mul}
use Rattle.std.proofs.Math.ListN.{length, length-append, length-replicate}
use Rattle.bits.specs.Basics.{pick, All, Bytes}
use Rattle.bits.specs.BasicsLaws.{length_values}
use Rattle.bits.specs.ListLaws.{all_append, all_map, all_both}
use Rattle.code_tables.specs.Codes.{got}
use Rattle.code_tables.specs.CodeReadLaws.{take_code_lem}
use Rattle.book.specs.Book.{tables_of, mode_table, vector_table, book_refusal}
use Rattle.code_tables.specs.CodesLaws.{code_most}
use Rattle.book.specs.BookLaws.{GoodBook, good_book, good_tables}
use Rattle.book.specs.declared.svq1_vlc.Svq1Half.{Svq1Half}
use Rattle.book.specs.declared.svq1_vlc.Svq1Half.TheVariants.{Intra, Inter}
use Rattle.codebook.specs.Codebook.{vector_at}
use Rattle.leaf.specs.Leaf.{sse}
use Rattle.leaf.specs.LeafLaws.{vectors_sized}
use Rattle.vectors.specs.declared.svq1_motion_predictor.Svq1Mv.{Svq1Mv}
use Rattle.vectors.specs.Vectors.{difference_mv, place_of}
use Rattle.vectors.specs.VectorsLaws.{Codable, Inside, place_lt, places_back, final_back, codable_inside, difference_inside, zero_inside}
use Rattle.mv_cache.specs.Neighbours.{Near, for_one, for_first, for_second, for_third, for_fourth}
use Rattle.mv_cache.specs.Grid.{part}
use Rattle.compensation.specs.CompensationLaws.{bytes_list, moved_byte, bytes_moved, length_moved}
use Rattle.motion.specs.Search.{searched}
use Rattle.motion.specs.SearchLaws.{found}
use Rattle.leaf.specs.DistanceLaws.{sse_most}
use Rattle.tree.specs.Plan.{total, pruned_cost}
use Rattle.plan.specs.PlanClaim.{largest_lambda, plan_cost}
use Rattle.plan.specs.PlanClaimLaws.{Planned, plan_short, plan_long, plan_bytes, plan_cheapest, plan_reads}
use Rattle.tree.specs.TreeBits.{Node, plan_tree, tree_bits, tree_shown}
use Rattle.macroblock.specs.declared.svq1_enc_inter.Svq1MbMode.{Svq1MbMode}
use Rattle.macroblock.specs.declared.svq1_enc_inter.Svq1MbMode.TheVariants as Mode
use Rattle.macroblock.specs.Mode.{mode_position}
use Rattle.macroblock.specs.Macroblock.{Given, cols, Motion, still, single, four, Choice, skipped, coded, motion_mode, half_of, vectors_of, left_of, top_of, reference_block, vector_for, baseline, shown, mode_codes, vector_codes, component_bits, difference_bits, vector_bits, motion_bits, mode_bits, choice_bits}
use Rattle.macroblock.specs.Choice.{Task, padded_source, target_of, target, search_for, block_search_for, if_found, single_tried, four_tried, motions_tried, skips_leaves, planning_for, tried, fitting, weight_of, chosen}
use Rattle.macroblock.specs.ChoiceLaws.{chosen_one, all_fitting, FitsLimit, skip_first, choice_cost, chosen-cost}
use Rattle.macroblock.specs.Reading.{read_difference, read_vector, read_coded, read_behind, read_macroblock}

-- ---- a block of 256 bytes
pub record Block (x : List ℕ) : Type 0 where
  pub size : length x ≡ 256
  pub bytes : Bytes x

pub near_24 : (x y : List ℕ) → Block x → Block y → sse x y < 2 ^ 24
near_24 x y hx hy = omega (arith, sse_most x y hx.bytes hy.bytes, hy.size)

-- what is known of the input of a plane that is not refused
pub record Fine (g : Given) (t : Task) : Type 0 where
  pub book : book_refusal g.book ≡ 0
  pub source_bytes : Bytes t.source
  pub reference_bytes : Bytes g.reference.samples

zeros : (n : ℕ) → Bytes (replicate n 0)
zeros zero k = omega arith
zeros (suc n) zero = omega arith
zeros (suc n) (suc k) = zeros n k

-- each vector is codable against its predictor
abbrev pub Codables : Near → Motion → Type 0
Codables n still = Unit
Codables n (single v) = Codable (for_one n) v
Codables n (four a b c d) = Codable (for_first n) a × Codable (for_second n a) b × Codable (for_third n a b) c × Codable (for_fourth a b c) d

module _ (g : Given) (t : Task) (ok : Fine g t) where
  good : GoodBook g.book
  good = good_book g.book ok.book

  -- ---- blocks
  part_block : (k : ℕ) (xs : List ℕ) → Bytes xs → Block (part 16 (cols g) k xs)
  unfolding part
  part_block k xs b = record { size = length_values _ 256 0; bytes = bytes_list _ (λ j. b _) 256 0 }

  pub target_block : (k : ℕ) → Block (target g t k)
  unfolding target_of padded_source
  target_block k = part_block k (padded_source g.width g.height t.source) (bytes_list _ (λ j. ok.source_bytes _) _ 0)

  pub reference_block_lem : (k : ℕ) → Block (reference_block g k)
  unfolding reference_block
  reference_block_lem k = part_block k g.reference.samples ok.reference_bytes

  pub baseline_block : (k : ℕ) (m : Motion) → Block (baseline g k m)
  unfolding baseline
  baseline_block k still = record { size = length-replicate {A = ℕ} 256 0; bytes = zeros 256 }
  baseline_block k (single v) = record {
    size = length_moved g.reference 16 (left_of g k) (top_of g k) v;
    bytes = bytes_moved g.reference ok.reference_bytes 16 (left_of g k) (top_of g k) v;
  }
  baseline_block k (four a b c d) = record {
    size = length_values _ 256 0;
    bytes = bytes_list _ (λ j. moved_byte g.reference ok.reference_bytes 16 (left_of g k) (top_of g k) (vector_for a b c d j) j) 256 0;
  }

  inter_skips : (h : Svq1Half) → skips_leaves h ≡ true → h ≡ Inter
  inter_skips Intra e = let z : ◌≡◌ {A = ℕ} 0 1 = cc in absurd (omega arith)
  inter_skips Inter e = refl

  -- ---- the plan for a motion
  pub planned_for : (k : ℕ) (m : Motion) → Planned (planning_for g t k m)
  unfolding planning_for
  planned_for k m = record {
    tables = good_tables g.book ok.book (half_of m);
    sized = vectors_sized g.codebook (half_of m);
    same_half = refl;
    few = omega arith;
    inter = inter_skips (half_of m);
    five = omega arith;
    target_long = (target_block k).size;
    predictor_long = (baseline_block k m).size;
    target_bytes = (target_block k).bytes;
    predictor_bytes = (baseline_block k m).bytes;
  }

  abbrev pub tree_for : ℕ → Motion → List Node
  tree_for k m = plan_tree (planning_for g t k m)

  -- ---- reading back, in front of anything
  difference_read : (d : Svq1Mv) (r : List ℕ) → Inside d → read_difference g (difference_bits g d ++ r) ≡ got d r
  unfolding read_difference
  difference_read d r h =
      let hx : place_of d.x < length (vector_codes g) = rw good.vector.count (place_lt d.x h.x_in) in
      let hy : place_of d.y < length (vector_codes g) = rw good.vector.count (place_lt d.y h.y_in) in
      rw (append_assoc, take_code_lem (vector_codes g) (place_of d.x) (component_bits g d.y ++ r) good.vector.free hx, take_code_lem (vector_codes g) (place_of d.y) r good.vector.free hy)
      (ap (λ (w : Svq1Mv). got w r) (places_back d h))

  vector_read : (p v : Svq1Mv) (r : List ℕ) → Codable p v → read_vector g p (vector_bits g p v ++ r) ≡ got v r
  unfolding read_vector vector_bits
  vector_read p v r c = rw (difference_read (difference_mv p v) r (difference_inside p v c)) (ap (λ (w : Svq1Mv). got w r) (final_back p v (codable_inside p v c)))

  -- the differences behind a mode
  motion_read : (n : Near) (m : Motion) (r : List ℕ) → Codables n m → read_behind g n (mode_position (motion_mode m)) (motion_bits g n m ++ r) ≡ read_coded g m r
  unfolding read_behind motion_bits
  motion_read n still r c = refl
  motion_read n (single v) r c = rw (vector_read (for_one n) v r c)
  motion_read n (four v1 v2 v3 v4) r c =
      let w2 = vector_bits g (for_second n v1) v2 in
      let w3 = vector_bits g (for_third n v1 v2) v3 in
      let w4 = vector_bits g (for_fourth v1 v2 v3) v4 in
      simp append_assoc (rw (
        vector_read (for_first n) v1 (w2 ++ (w3 ++ (w4 ++ r))) c.0,
        vector_read (for_second n v1) v2 (w3 ++ (w4 ++ r)) c.1,
        vector_read (for_third n v1 v2) v3 (w4 ++ r) c.2,
        vector_read (for_fourth v1 v2 v3) v4 r c.3,
      ))

  position_lt : (m : Svq1MbMode) → mode_position m < 4
  position_lt Mode.Inter = omega arith
  position_lt Mode.Inter4Mv = omega arith
  position_lt Mode.Intra = omega arith
  position_lt Mode.Skip = omega arith

  mode_read_lem : (n : Near) (m : Svq1MbMode) (r : List ℕ) → read_macroblock g n (mode_bits g m ++ r) ≡ read_behind g n (mode_position m) r
  unfolding read_macroblock
  mode_read_lem n m r = rw (take_code_lem (mode_codes g) (mode_position m) r good.mode.free (rw good.mode.count (position_lt m)))

  tree_read : (k : ℕ) (m : Motion) (r : List ℕ) → read_coded g m (tree_bits (tables_of g.book (half_of m)) (tree_for k m) ++ r) ≡ got (coded m (tree_for k m)) r
  unfolding read_coded planning_for
  tree_read k m r = rw (plan_reads (planning_for g t k m) (planned_for k m) r)

  -- ---- lengths and costs
  vector_short : (p v : Svq1Mv) → length (vector_bits g p v) ≤ 64
  unfolding vector_bits
  vector_short p v =
      let d = difference_mv p v in
      simp length-append (omega (arith, code_most (vector_table g.book) good.vector.good (place_of d.x), code_most (vector_table g.book) good.vector.good (place_of d.y)))

  motion_short : (n : Near) (m : Motion) → length (motion_bits g n m) ≤ 256
  unfolding motion_bits
  motion_short n still = omega arith
  motion_short n (single v) = omega (arith, vector_short (for_one n) v)
  motion_short n (four v1 v2 v3 v4) =
      simp length-append
      (omega (arith, vector_short (for_first n) v1, vector_short (for_second n v1) v2, vector_short (for_third n v1 v2) v3, vector_short (for_fourth v1 v2 v3) v4))

  mode_short : (m : Svq1MbMode) → length (mode_bits g m) ≤ 32
  mode_short m = code_most (mode_table g.book) good.mode.good (mode_position m)

  tree_short : (k : ℕ) (m : Motion) → length (tree_bits (tables_of g.book (half_of m)) (tree_for k m)) ≤ 2847
  unfolding planning_for
  tree_short k m = plan_short (planning_for g t k m) (planned_for k m)

  -- the most bits of a macroblock, under any good book
  abbrev pub most_choice_bits : ℕ
  most_choice_bits = 3135

  -- ---- what holds of every choice tried
  pub record Good (k : ℕ) (n : Near) (c : Choice) : Type 0 where
    pub reads : (r : List ℕ) → read_macroblock g n (choice_bits g n c ++ r) ≡ got c r
    pub short : length (choice_bits g n c) ≤ most_choice_bits
    pub block : Block (shown g k c)
    pub inside : All Inside (vectors_of c)

  skip_read : (n : Near) (r : List ℕ) → read_behind g n 3 r ≡ got skipped r
  unfolding read_behind
  skip_read n r = refl

  good_skip : (k : ℕ) (n : Near) → Good k n skipped
  unfolding choice_bits shown
  good_skip k n = record {
    reads = λ r. mode_read_lem n Mode.Skip r ∙ skip_read n r;
    short = omega (arith, mode_short Mode.Skip);
    block = reference_block_lem k;
    inside = (zero_inside, (zero_inside, (zero_inside, (zero_inside, tt))));
  }

  motion_inside : (n : Near) (m : Motion) (u : List Node) → Codables n m → All Inside (vectors_of (coded m u))
  motion_inside n still u c = (zero_inside, (zero_inside, (zero_inside, (zero_inside, tt))))
  motion_inside n (single v) u c = let i = codable_inside (for_one n) v c in (i, (i, (i, (i, tt))))
  motion_inside n (four v1 v2 v3 v4) u c =
      (codable_inside _ v1 c.0, (codable_inside _ v2 c.1, (codable_inside _ v3 c.2, (codable_inside _ v4 c.3, tt))))

  tree_block : (k : ℕ) (m : Motion) → Block (tree_shown (vector_at g.codebook (half_of m)) 5 (baseline g k m) (tree_for k m))
  unfolding planning_for
  tree_block k m = record { size = plan_long (planning_for g t k m) (planned_for k m); bytes = plan_bytes (planning_for g t k m) (planned_for k m) }

  good_coded : (k : ℕ) (n : Near) (m : Motion) → Codables n m → Good k n (coded m (tree_for k m))
  unfolding choice_bits shown
  good_coded k n m c =
      let bits = tree_bits (tables_of g.book (half_of m)) (tree_for k m) in
      record {
        reads = λ r.
            simp append_assoc
            (mode_read_lem n (motion_mode m) (motion_bits g n m ++ (bits ++ r)) ∙ motion_read n m (bits ++ r) c ∙ tree_read k m r);
        short = simp length-append (omega (arith, mode_short (motion_mode m), motion_short n m, tree_short k m));
        block = tree_block k m;
        inside = motion_inside n m (tree_for k m) c;
      }

  -- ---- every motion tried is codable
  found_all : (n : Near) (f : Option Svq1Mv) (h : Svq1Mv → List Motion) → ((v : Svq1Mv) → f ≡ Some v → All (Codables n) (h v)) → All (Codables n) (if_found f h)
  found_all n None h k = tt
  found_all n (Some v) h k = k v refl

  single_codable : (k : ℕ) (n : Near) → All (Codables n) (single_tried g t k n)
  unfolding single_tried
  single_codable k n = found_all n (searched (search_for g t k (for_one n))) _ (λ v e. ((found (search_for g t k (for_one n)) v e).codes, tt))

  four_codable : (k : ℕ) (n : Near) → All (Codables n) (four_tried g t k n)
  unfolding four_tried
  four_codable k n =
      found_all n (searched (block_search_for g t k 0 (for_first n))) _ (λ a ea.
      found_all n (searched (block_search_for g t k 1 (for_second n a))) _ (λ b eb.
      found_all n (searched (block_search_for g t k 2 (for_third n a b))) _ (λ c ec.
      found_all n (searched (block_search_for g t k 3 (for_fourth a b c))) _ (λ d ed.
      (((found _ a ea).codes, (found _ b eb).codes, (found _ c ec).codes, (found _ d ed).codes), tt)))))

  flag_codable : (k : ℕ) (n : Near) (f : Bool) → All (Codables n) (pick f (four_tried g t k n) [])
  flag_codable k n true = four_codable k n
  flag_codable k n false = tt

  pub motions_codable : (k : ℕ) (n : Near) → All (Codables n) (motions_tried g t k n)
  unfolding motions_tried
  motions_codable k n = all_append (Codables n) (single_tried g t k n) _ (single_codable k n) (tt, flag_codable k n t.settings.four)

  pub tried_good : (k : ℕ) (n : Near) → All (Good k n) (tried g t k n)
  unfolding tried
  tried_good k n =
      (good_skip k n, all_map (Codables n) (Good k n) (λ m. coded m (tree_for k m)) (motions_tried g t k n) (good_coded k n) (motions_codable k n))

  -- what is written has all of it
  pub chosen_good : (k : ℕ) (n : Near) (spent : ℕ) → Good k n (chosen g t k n spent)
  chosen_good k n spent = chosen_one g t (Good k n) k n spent (tried_good k n)

  -- ---- at this lambda nothing saturates
  module _ (low : t.settings.lambda ≤ largest_lambda) where
    plain : (k : ℕ) (n : Near) (c : Choice) → Good k n c → choice_cost g t k n c ≡ total t.settings.lambda (weight_of g t k n c)
    unfolding weight_of
    plain k n c h =
        let e = near_24 (target g t k) (shown g k c) (target_block k) h.block in
        let l : t.settings.lambda * length (choice_bits g n c) ≤ 2 ^ 48 * 3135 = mul-le-mul low h.short in
        omega arith

    abbrev NotBelow : ℕ → Near → ℕ → Choice → Type 0
    NotBelow k n spent c = total t.settings.lambda (weight_of g t k n (chosen g t k n spent)) ≤ total t.settings.lambda (weight_of g t k n c)

    -- no mode that fits costs less than the one written
    pub chosen_least : (k : ℕ) (n : Near) (spent : ℕ) → All (NotBelow k n spent) (fitting g t k n spent)
    unfolding fitting
    chosen_least k n spent =
        let e = plain k n (chosen g t k n spent) (chosen_good k n spent) in
        all_both (λ c. choice_cost g t k n (chosen g t k n spent) ≤ choice_cost g t k n c) (Good k n) (NotBelow k n spent) (fitting g t k n spent)
        (λ c l h. rw (e, plain k n c h) at l) (chosen-cost g t k n spent) (all_fitting g t (Good k n) k n spent t.limit (tried_good k n))

    -- nor SKIP, where it fits
    pub under_skip : (k : ℕ) (n : Near) (spent : ℕ) → FitsLimit g t k n spent skipped → NotBelow k n spent skipped
    unfolding fitting
    under_skip k n spent h = skip_first g t (NotBelow k n spent) k n spent t.limit h (chosen_least k n spent)

    at_lambda : (k : ℕ) (m : Motion) → (planning_for g t k m).lambda ≤ largest_lambda
    unfolding planning_for
    at_lambda k m = low

    -- no pruning of a plan costs less than the plan
    pub unpruned : (k : ℕ) (m : Motion) (cut : ℕ → Bool) → plan_cost (planning_for g t k m) ≤ pruned_cost (planning_for g t k m) cut
    unpruned k m cut = plan_cheapest (planning_for g t k m) (planned_for k m) (at_lambda k m) cut
