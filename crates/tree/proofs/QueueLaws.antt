-- By number is level by level: the bits of a tree in the order of its blocks' numbers are those of document 01's emission, a queue for each level,
-- the root's first, where a split block's two parts go to the end of the next level's queue.
-- Assumes nothing.
use Rattle.std.specs.Prelude.{◌≡◌, Bool, true, false, ◌||◌, eqb, length, get_or}
use Rattle.std.proofs.Math.Path.{refl, sym, ap}
use Rattle.std.proofs.Common.{◌∙◌, ne_eqb}
use mathlib.Core.List.{List, [], ◌∷◌, ◌++◌, append_assoc, append-nil}
use Prim.Native.Nat.{ℕ, zero, suc, ◌+◌, ◌*◌, ◌/◌, ◌≤◌, ◌<◌}
use native.Mathlib.Omega.{arith}
use Rattle.std.proofs.Math.Nat.{add-zero, zero-add}
use Rattle.std.proofs.Math.Decide.{dec_lt}
use Rattle.std.proofs.Math.ListN.{get_or-eq_default}
use Rattle.bits.specs.Basics.{pick}
use Rattle.bits.specs.BasicsLaws.{either_right}
use Rattle.book.specs.Book.{Tables}
use Rattle.tree.specs.Blocks.{block_count, left, right, level, first}
use Rattle.tree.specs.TreeBits.{Node, Off, Split, Ends, is_split, reached, grow, node_bits, emit, tree_bits}
use Rattle.tree.specs.GeometryLaws.{at_first}
use Rattle.tree.specs.TreeLaws.{length_grow, grown}
use Rattle.tree.specs.WalkNeedsLaws.{reached-root}
use Rattle.tree.specs.Queue.{present, row_bits, next, queue_bits}

module _ (T : Tables) (b : ℕ → Node) where
  -- of the n blocks from a on, those that the tree has
  sel : ℕ → ℕ → List ℕ
  sel a zero = []
  sel a (suc n) = pick (present (b a)) (a ∷ sel (suc a) n) (sel (suc a) n)

  -- the bits of the n blocks from a on, of level d, before k
  range : ℕ → ℕ → ℕ → List ℕ → List ℕ
  range d a zero k = k
  range d a (suc n) k = node_bits T d (b a) ++ range d (suc a) n k

  twice : ℕ → ℕ
  twice zero = zero
  twice (suc n) = suc (suc (twice n))

  row_sel : (d a n : ℕ) (k : List ℕ) → row_bits T b d (sel a n) ++ k ≡ range d a n k
  unfolding row_bits sel range node_bits
  row_sel d a zero k = refl
  row_sel d a (suc n) k = go (b a) refl (row_sel d (suc a) n k)
    where
      go : (x : Node) → b a ≡ x → row_bits T b d (sel (suc a) n) ++ k ≡ range d (suc a) n k
          → row_bits T b d (pick (present x) (a ∷ sel (suc a) n) (sel (suc a) n)) ++ k ≡ node_bits T d x ++ range d (suc a) n k
      go Off e h = h
      go Split e h = rw (e, append_assoc, h)
      go (Ends l) e h = rw (e, append_assoc, h)

  flat_bits : (ℕ → ℕ) → ℕ → ℕ → List ℕ
  flat_bits lev zero i = []
  flat_bits lev (suc n) i = node_bits T (lev i) (b i) ++ flat_bits lev n (suc i)

  in_order_lem : range 5 0 1 (range 4 1 2 (range 3 3 4 (range 2 7 8 (range 1 15 16 (range 0 31 32 []))))) ≡ flat_bits level 63 0
  unfolding range flat_bits
  in_order_lem = refl

  flat_is : (t : List Node) (i : ℕ) → ((k : ℕ) → b (i + k) ≡ get_or t k Off) → emit T i t ≡ flat_bits level (length t) i
  unfolding flat_bits emit
  flat_is [] i h = refl
  flat_is (x ∷ t) i h =
      let e : b i ≡ x = rw add-zero at (h 0) in
      rw (e, flat_is t (suc i) (λ k. let e2 : suc i + k ≡ i + suc k = omega arith in rw e2 (h (suc k))))

  -- blocks that the tree does not have
  off_range : (d a n : ℕ) (k : List ℕ) → ((i : ℕ) → a ≤ i → i < a + n → b i ≡ Off) → range d a n k ≡ k
  unfolding range node_bits
  off_range d a zero k h = refl
  off_range d a (suc n) k h = rw (h a (omega arith) (omega arith)) (off_range d (suc a) n k (λ i l m. h i (omega arith) (omega arith)))

  off_sel : (a n : ℕ) → ((i : ℕ) → a ≤ i → i < a + n → b i ≡ Off) → sel a n ≡ []
  unfolding sel
  off_sel a zero h = refl
  off_sel a (suc n) h = rw (h a (omega arith) (omega arith)) (off_sel (suc a) n (λ i l m. h i (omega arith) (omega arith)))

  -- from the root on a block has its parts where it is split, and else not
  module _ (r : ℕ) (on : (i : ℕ) → r ≤ i → is_split (b i) ≡ true → (present (b (left i)) ≡ true) × (present (b (right i)) ≡ true))
      (gone : (i : ℕ) → r ≤ i → is_split (b i) ≡ false → (present (b (left i)) ≡ false) × (present (b (right i)) ≡ false)) where
    next_sel : (a n : ℕ) → r ≤ a → next T b (sel a n) ≡ sel (left a) (twice n)
    unfolding next sel twice
    next_sel a zero l = refl
    next_sel a (suc n) l =
        let e1 : suc (left a) ≡ right a = omega arith in
        let e2 : suc (suc (left a)) ≡ left (suc a) = omega arith in
        rw (e2, e1) (go (b a) refl (next_sel (suc a) n (omega arith)))
      where
        go : (x : Node) → b a ≡ x → next T b (sel (suc a) n) ≡ sel (left (suc a)) (twice n)
            → next T b (pick (present x) (a ∷ sel (suc a) n) (sel (suc a) n))
            ≡ pick (present (b (left a))) (left a ∷ pick (present (b (right a))) (right a ∷ sel (left (suc a)) (twice n)) (sel (left (suc a)) (twice n)))
            (pick (present (b (right a))) (right a ∷ sel (left (suc a)) (twice n)) (sel (left (suc a)) (twice n)))
        go Off e h = let g = gone a l (ap is_split e) in rw (g.0, g.1, h)
        go Split e h = let g = on a l (ap is_split e) in rw (g.0, g.1, e, h)
        go (Ends p) e h = let g = gone a l (ap is_split e) in rw (g.0, g.1, e, h)

    -- the levels from d on, of which d has the n blocks from a on
    chain : ℕ → ℕ → ℕ → List ℕ
    chain zero a n = range zero a n []
    chain (suc d) a n = range (suc d) a n (chain d (left a) (twice n))

    by_queue : (d a n : ℕ) → r ≤ a → queue_bits T b d (sel a n) ≡ chain d a n
    unfolding queue_bits chain
    by_queue zero a n l = sym (append-nil (row_bits T b zero (sel a n))) ∙ row_sel zero a n []
    by_queue (suc d) a n l = rw (next_sel a n l, by_queue d (left a) (twice n) (omega arith)) (row_sel (suc d) a n (chain d (left a) (twice n)))

    -- the root's queue, and the levels above the root
    module _ (here : present (b r) ≡ true) (quiet : (i : ℕ) → (i ≡ r → ⊥) → i ≤ 2 * r → b i ≡ Off) where
      root_queue : sel r (suc r) ≡ r ∷ []
      unfolding sel
      root_queue = rw (here, off_sel (suc r) r (λ i l m. quiet i (λ e. omega arith) (omega arith)))

      above : (d a n : ℕ) (k : List ℕ) → a + n ≤ r → range d a n k ≡ k
      above d a n k h = off_range d a n k (λ i l m. quiet i (λ e. omega arith) (omega arith))

      -- the blocks from each level on
      l0 : List ℕ
      l0 = range 0 31 32 []

      l1 : List ℕ
      l1 = range 1 15 16 l0

      l2 : List ℕ
      l2 = range 2 7 8 l1

      l3 : List ℕ
      l3 = range 3 3 4 l2

      l4 : List ℕ
      l4 = range 4 1 2 l3

      -- all the blocks are those of the levels from d on, where the levels above have none
      from_root : (d : ℕ) → d ≤ 5 → r ≡ first d → flat_bits level 63 0 ≡ chain d r (suc r)
      unfolding chain twice l0 l1 l2 l3 l4
      from_root zero h e =
          sym in_order_lem ∙ above 5 0 1 l4 (omega arith) ∙ above 4 1 2 l3 (omega arith) ∙ above 3 3 4 l2 (omega arith) ∙ above 2 7 8 l1 (omega arith) ∙ above 1 15 16 l0 (omega arith) ∙ rw e
      from_root (suc zero) h e =
          sym in_order_lem ∙ above 5 0 1 l4 (omega arith) ∙ above 4 1 2 l3 (omega arith) ∙ above 3 3 4 l2 (omega arith) ∙ above 2 7 8 l1 (omega arith) ∙ rw e
      from_root (suc (suc zero)) h e = sym in_order_lem ∙ above 5 0 1 l4 (omega arith) ∙ above 4 1 2 l3 (omega arith) ∙ above 3 3 4 l2 (omega arith) ∙ rw e
      from_root (suc (suc (suc zero))) h e = sym in_order_lem ∙ above 5 0 1 l4 (omega arith) ∙ above 4 1 2 l3 (omega arith) ∙ rw e
      from_root (suc (suc (suc (suc zero)))) h e = sym in_order_lem ∙ above 5 0 1 l4 (omega arith) ∙ rw e
      from_root (suc (suc (suc (suc (suc zero))))) h e = sym in_order_lem ∙ rw e
      from_root (suc (suc (suc (suc (suc (suc d)))))) h e = absurd (omega arith)

      pub queue_from : (d : ℕ) (t : List Node) → d ≤ 5 → r ≡ first d → length t ≡ 63 → ((k : ℕ) → b k ≡ get_or t k Off) → queue_bits T b d (r ∷ []) ≡ tree_bits T t
      unfolding tree_bits
      queue_from d t h e len same =
          ap (queue_bits T b d) (sym root_queue) ∙ by_queue d r (suc r) (omega arith) ∙ sym (from_root d h e)
          ∙ ap (λ (n : ℕ). flat_bits level n 0) (sym len) ∙ sym (flat_is t 0 (λ k. rw zero-add (same k)))

-- ---- the tree that a choice at each block makes
module _ (r : ℕ) (choose : ℕ → Node) (low : r < block_count) (some : (i : ℕ) → i < block_count → present (choose i) ≡ true) (whole : (i : ℕ) → 31 ≤ i → is_split (choose i) ≡ false) where
  abbrev tree : List Node
  tree = grow r choose block_count

  abbrev at : ℕ → Node
  at i = get_or tree i Off

  past : (i : ℕ) → block_count ≤ i → at i ≡ Off
  past i h = get_or-eq_default tree Off (rw (length_grow r choose block_count) h)

  -- block i is there where it is reached
  there : (i : ℕ) (f : Bool) → i < block_count → reached r tree i ≡ f → at i ≡ pick f (choose i) Off
  there i f h e = grown r choose block_count i h ∙ rw e

  -- an L0 block is not split
  not_split : (i : ℕ) → 31 ≤ i → is_split (at i) ≡ false
  not_split i l = elim (dec_lt i block_count) [ yes m ↦ ap is_split (there i (reached r tree i) m refl) ∙ go (reached r tree i) | no m ↦ ap is_split (past i (omega arith)) ]
    where
      go : (f : Bool) → is_split (pick f (choose i) Off) ≡ false
      go true = whole i l
      go false = refl

  split_low : (i : ℕ) → is_split (at i) ≡ true → i < 31
  split_low i e = elim (dec_lt i 31) [ yes l ↦ l | no l ↦ absurd (differ (sym (not_split i (omega arith)) ∙ e)) ]
    where
      differ : false ≡ true → ⊥
      differ q = let z : ◌≡◌ {A = ℕ} 0 1 = cc in omega arith

  -- block j + 1 is a part of block i
  reach : (i j : ℕ) → j / 2 ≡ i → reached r tree (suc j) ≡ (eqb (suc j) r || is_split (at i))
  reach i j e = rw e

  part_on : (i j : ℕ) → j / 2 ≡ i → is_split (at i) ≡ true → present (at (suc j)) ≡ true
  part_on i j e s =
      let h : suc j < block_count = omega (arith, split_low i s) in
      let f : reached r tree (suc j) ≡ true = reach i j e ∙ rw s (either_right (eqb (suc j) r)) in
      ap present (there (suc j) true h f) ∙ some (suc j) h

  unreached : (j : ℕ) → reached r tree (suc j) ≡ false → at (suc j) ≡ Off
  unreached j f = elim (dec_lt (suc j) block_count) [ yes m ↦ there (suc j) false m f | no m ↦ past (suc j) (omega arith) ]

  part_gone : (i j : ℕ) → j / 2 ≡ i → r ≤ i → is_split (at i) ≡ false → present (at (suc j)) ≡ false
  part_gone i j e l s = ap present (unreached j (reach i j e ∙ rw (s, ne_eqb (suc j) r (λ q. omega arith))))

  -- what lies above the root or beside it is not there
  quiet_below : (n i : ℕ) → i < n → (i ≡ r → ⊥) → i ≤ 2 * r → at i ≡ Off
  quiet_below zero i h m l = absurd (omega arith)
  quiet_below (suc n) zero h m l = there zero false (omega arith) (ne_eqb zero r m)
  quiet_below (suc n) (suc j) h m l =
      let up : at (j / 2) ≡ Off = quiet_below n (j / 2) (omega arith) (λ q. omega arith) (omega arith) in
      unreached j (reach (j / 2) j refl ∙ rw (up, ne_eqb (suc j) r m))

  root_there : present (at r) ≡ true
  root_there = ap present (there r true low (sym (reached-root r tree r refl))) ∙ some r low

  parts_on : (i : ℕ) → r ≤ i → is_split (at i) ≡ true → (present (at (left i)) ≡ true) × (present (at (right i)) ≡ true)
  parts_on i l s =
      let a : left i ≡ suc (2 * i) = omega arith in
      let c : right i ≡ suc (2 * i + 1) = omega arith in
      (rw a (part_on i (2 * i) (omega arith) s), rw c (part_on i (2 * i + 1) (omega arith) s))

  parts_gone : (i : ℕ) → r ≤ i → is_split (at i) ≡ false → (present (at (left i)) ≡ false) × (present (at (right i)) ≡ false)
  parts_gone i l s =
      let a : left i ≡ suc (2 * i) = omega arith in
      let c : right i ≡ suc (2 * i + 1) = omega arith in
      (rw a (part_gone i (2 * i) (omega arith) l s), rw c (part_gone i (2 * i + 1) (omega arith) l s))

  pub queue_grown : (T : Tables) (d : ℕ) → d ≤ 5 → r ≡ first d → queue_bits T at d (r ∷ []) ≡ tree_bits T tree
  queue_grown T d h e = queue_from T at r parts_on parts_gone root_there (λ i m l. quiet_below (suc i) i (omega arith) m l) d tree h e (length_grow r choose block_count) (λ k. refl)

-- THE ORDER: the tree that a choice at each block makes, of a block of level d, has the bits of document 01's emission
pub queue_flat : (T : Tables) (d : ℕ) (choose : ℕ → Node) → d ≤ 5 → ((i : ℕ) → i < block_count → present (choose i) ≡ true) → ((i : ℕ) → 31 ≤ i → is_split (choose i) ≡ false)
    → queue_bits T (λ i. get_or (grow (first d) choose block_count) i Off) d (first d ∷ []) ≡ tree_bits T (grow (first d) choose block_count)
queue_flat T d choose h some whole = queue_grown (first d) choose (at_first d h).1 some whole T d h refl
