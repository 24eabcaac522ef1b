-- Laws of the most bits: a leaf's, a plan's, and those of the macroblock that is written, by the book's longest codes.
-- Assumes nothing.
use Rattle.std.specs.Prelude.{ℕ, zero, suc, ◌+◌, ◌*◌, ◌≤◌, max, ◌≡◌, refl, Bool, true, false, List, length, ◌-ℤ◌}
use Rattle.std.proofs.Common.{ap, ◌∙◌}
use native.Mathlib.Omega.{arith}
use Rattle.std.proofs.Math.Nat.{le_trans}
use Rattle.std.proofs.Math.ListN.{length-append}
use Rattle.bits.specs.Basics.{pick, All}
use Rattle.code_tables.specs.Codes.{code}
use Rattle.book.specs.Book.{Tables, tables_of, mode_table, vector_table, mean_table, stage_family, stage_table, entries, book_refusal}
use Rattle.book.specs.BookLaws.{good_book}
use Rattle.book.specs.declared.svq1_vlc.Svq1Half.{Svq1Half}
use Rattle.book.specs.declared.svq1_vlc.Svq1Half.TheVariants.{Intra, Inter}
use Rattle.leaf.specs.Leaf.{Leaf, skip, coded}
use Rattle.leaf.specs.LeafBits.{leaf_bits}
use Rattle.leaf.specs.LeafBitsLaws.{AllowedLeaf, length_leaf}
use Rattle.codebook.specs.Mean.{mean_position}
use Rattle.vectors.specs.declared.svq1_motion_predictor.Svq1Mv.{Svq1Mv}
use Rattle.vectors.specs.Vectors.{place_of}
use Rattle.mv_cache.specs.Neighbours.{Near, for_one, for_first, for_second, for_third, for_fourth}
use Rattle.tree.specs.Blocks.{left, right, level}
use Rattle.tree.specs.Plan.{Weight, Planning, joint_weight, flagged, cheaper, planned, root, leaf_at, weight_at, plan_weight}
use Rattle.plan.specs.PlanLaws.{most_bits_lem}
use Rattle.plan.specs.PlanClaimLaws.{Planned, allowed, plan_bits}
use Rattle.tree.specs.TreeBits.{plan_tree, tree_bits}
use Rattle.macroblock.specs.Mode.{mode_position}
use Rattle.macroblock.specs.declared.svq1_enc_inter.Svq1MbMode.{Svq1MbMode}
use Rattle.macroblock.specs.declared.svq1_enc_inter.Svq1MbMode.TheVariants.{Skip}
use Rattle.macroblock.specs.Macroblock as mb
use Rattle.macroblock.specs.Macroblock.{Given, Motion, still, single, four, Choice, motion_mode, half_of, vector_bits, motion_bits, mode_bits, choice_bits}
use Rattle.macroblock.specs.Choice.{Task, motions_tried, planning_for, tried, chosen}
use Rattle.bits.specs.ListLaws.{all_map}
use Rattle.macroblock.specs.ChoiceLaws.{chosen_one}
use Rattle.macroblock.specs.MacroblockLaws.{Fine, Codables, planned_for, tree_for, motions_codable}
use Rattle.plane_room.specs.Room.{longest, book_bits, any_bits}
use Rattle.plane_room.specs.LongestLaws.{code-longest, part-longest, good_longest}

-- ---- a leaf: a stage code, and for a coded one a mean and at most six stages
leaf_few : (T : Tables) (s u d : ℕ) → ((k : ℕ) → length (code (T.stage d) k) ≤ s) → ((k : ℕ) → length (code T.mean k) ≤ u)
    → (l : Leaf) → AllowedLeaf T d l → length (leaf_bits T d l) ≤ s + u + 24
unfolding leaf_bits
leaf_few T s u d hs hu skip a = omega (arith, hs 0)
leaf_few T s u d hs hu (coded m js) a = omega (arith, length_leaf T d m js, hs (suc (length js)), hu (mean_position T.half m), a.few)

-- ---- a plan: where a leaf has at most b bits, block i of level d has at most 2^d leaves and 2^d - 1 flags
pick_few : (t : Bool) (b : ℕ) (v w : Weight) → v.bits ≤ b → w.bits ≤ b → (pick t v w).bits ≤ b
pick_few true b v w hv hw = hv
pick_few false b v w hv hw = hw

leaf_below : (b d : ℕ) → b ≤ most_bits_lem b d
leaf_below b zero = omega arith
leaf_below b (suc d) = omega (arith, leaf_below b d)

planned_few : (leaf : ℕ → Weight) (lambda b : ℕ) → ((i : ℕ) → (leaf i).bits ≤ b) → (d i : ℕ) → (planned leaf lambda d i).bits ≤ most_bits_lem b d
unfolding planned
planned_few leaf lambda b h zero i = h i
planned_few leaf lambda b h (suc d) i =
    let parts = joint_weight (planned leaf lambda d (left i)) (planned leaf lambda d (right i)) in
    pick_few (cheaper lambda parts (flagged (leaf i))) (most_bits_lem b (suc d)) parts (flagged (leaf i))
    (omega (arith, planned_few leaf lambda b h d (left i), planned_few leaf lambda b h d (right i))) (omega (arith, h i, leaf_below b d))

split_everywhere : (b : ℕ) → most_bits_lem b 5 ≤ 31 + 32 * b
split_everywhere b = omega arith

plan_few : (p : Planning) → Planned p → (s u : ℕ) → ((d k : ℕ) → length (code (p.tables.stage d) k) ≤ s) → ((k : ℕ) → length (code p.tables.mean k) ≤ u)
    → length (tree_bits p.tables (plan_tree p)) ≤ most_bits_lem (s + u + 24) p.level
unfolding plan_weight weight_at
plan_few p ok s u hs hu =
    rw (← plan_bits p ok) (planned_few (weight_at p) p.lambda (s + u + 24)
    (λ i. leaf_few p.tables s u (level i) (hs (level i)) hu (leaf_at p i) (allowed p ok i)) p.level (root p))

-- ---- a book's longest codes
module _ (book : List ℕ) where
  abbrev mode : ℕ
  mode = longest (mode_table book)

  abbrev vector : ℕ
  vector = longest (vector_table book)

  abbrev stage : ℕ
  stage = max (longest (stage_family Intra book)) (longest (stage_family Inter book))

  abbrev mean : ℕ
  mean = max (longest (mean_table Intra book)) (longest (mean_table Inter book))

  family_most : (h : Svq1Half) → longest (stage_family h book) ≤ stage
  family_most Intra = omega arith
  family_most Inter = omega arith

  stage_most : (h : Svq1Half) (d k : ℕ) → length (code ((tables_of book h).stage d) k) ≤ stage
  stage_most h d k =
      le_trans (code-longest (stage_table d (stage_family h book)) k) (le_trans (part-longest (8 * d) 8 (stage_family h book)) (family_most h))

  mean_most : (h : Svq1Half) (k : ℕ) → length (code (tables_of book h).mean k) ≤ mean
  mean_most Intra k = omega (arith, code-longest (mean_table Intra book) k)
  mean_most Inter k = omega (arith, code-longest (mean_table Inter book) k)

-- in a book that passes no code is longer than 32 bits
pub part_most : (book : List ℕ) → book_refusal book ≡ 0 → (from n : ℕ) → longest (entries from n book) ≤ 32
part_most book e from n = le_trans (part-longest from n book) (good_longest book (good_book book e).good)

-- the longest code of a table of it
pub longest_by : (book : List ℕ) → book_refusal book ≡ 0 → (from size : ℕ) (t : List ℕ) (n : ℕ) → t ≡ entries from size book → n ≡ longest t
    → (n ≡ longest (entries from size book)) × (n ≤ 32)
longest_by book e from size t n h k =
    let q : n ≡ longest (entries from size book) = k ∙ ap longest h in
    (q, omega (arith, q, part_most book e from size))

-- so no such book has more than 3,135 bits for a macroblock
pub any_is : any_bits ≡ 3135
any_is = refl

pub book_any : (book : List ℕ) → book_refusal book ≡ 0 → book_bits book ≤ any_bits
unfolding book_bits
book_any book e =
    let part : (from n : ℕ) → longest (entries from n book) ≤ 32 = part_most book e in
    omega (arith, part 0 4, part 4 64, part 836 48, part 884 48, part 68 256, part 324 512)

-- ---- a macroblock
module _ (g : Given) (t : Task) (ok : Fine g t) where
  vector_few : (p v : Svq1Mv) → length (vector_bits g p v) ≤ 2 * vector g.book
  unfolding vector_bits
  vector_few p v =
      simp length-append
      (omega (arith, code-longest (vector_table g.book) (place_of (v.x -ℤ p.x)), code-longest (vector_table g.book) (place_of (v.y -ℤ p.y))))

  motion_few : (n : Near) (m : Motion) → length (motion_bits g n m) ≤ 8 * vector g.book
  unfolding motion_bits
  motion_few n still = omega arith
  motion_few n (single v) = omega (arith, vector_few (for_one n) v)
  motion_few n (four v1 v2 v3 v4) =
      simp length-append
      (omega (arith, vector_few (for_first n) v1, vector_few (for_second n v1) v2, vector_few (for_third n v1 v2) v3, vector_few (for_fourth v1 v2 v3) v4))

  mode_few : (m : Svq1MbMode) → length (mode_bits g m) ≤ mode g.book
  mode_few m = code-longest (mode_table g.book) (mode_position m)

  tree_few : (k : ℕ) (m : Motion)
      → length (tree_bits (tables_of g.book (half_of m)) (tree_for g t ok k m)) ≤ 31 + 32 * (stage g.book + mean g.book + 24)
  unfolding planning_for
  tree_few k m =
      le_trans
      (plan_few (planning_for g t k m) (planned_for g t ok k m) (stage g.book) (mean g.book) (stage_most g.book (half_of m)) (mean_most g.book (half_of m)))
      (split_everywhere (stage g.book + mean g.book + 24))

  abbrev Few : Near → Choice → Type 0
  Few n c = length (choice_bits g n c) ≤ book_bits g.book

  skip_few : (n : Near) → Few n mb.skipped
  unfolding choice_bits book_bits
  skip_few n = omega (arith, mode_few Skip)

  coded_few : (k : ℕ) (n : Near) (m : Motion) → Few n (mb.coded m (tree_for g t ok k m))
  unfolding choice_bits book_bits
  coded_few k n m = simp length-append (omega (arith, mode_few (motion_mode m), motion_few n m, tree_few k m))

  tried_few : (k : ℕ) (n : Near) → All (Few n) (tried g t k n)
  unfolding tried
  tried_few k n =
      (skip_few n, all_map (Codables n) (Few n) (λ m. mb.coded m (tree_for g t ok k m)) (motions_tried g t k n) (λ m c. coded_few k n m) (motions_codable g t ok k n))

  -- what is written has at most the book's bits
  pub chosen_few : (k : ℕ) (n : Near) (spent : ℕ) → length (choice_bits g n (chosen g t k n spent)) ≤ book_bits g.book
  chosen_few k n spent = chosen_one g t (Few n) k n spent (tried_few k n)
