-- Laws of the tree that splits and leaf choices make, for a block of any level: how many bits it has, and what it shows.
-- Assumes nothing.
use Rattle.std.specs.Prelude.{◌≡◌, Bool, get_or}
use Rattle.std.proofs.Math.Path.{refl, sym, ap}
use Rattle.std.proofs.Common.{◌∙◌, add-zero, add-suc, eq-eqb, ne_eqb}
use Rattle.std.proofs.Math.Bool.{true, false}
use mathlib.Core.List.{List}
use Prim.Native.Nat.{ℕ, zero, suc, ◌+◌, ◌-◌, ◌/◌, ◌≤◌, ◌<◌}
use native.Mathlib.Omega.{arith}
use Rattle.std.proofs.Math.Decide.{dec_lt}
use Rattle.std.proofs.Math.ListN.{length, replicate, get_or-eq_default}
use Rattle.std.proofs.lemmas.List.{length-replicate}
use Rattle.bits.specs.Basics.{pick}
use Rattle.book.specs.Book.{Tables}
use Rattle.book.specs.Level.{width, height, area}
use Rattle.leaf.specs.Leaf.{Leaf}
use Rattle.leaf.specs.LeafBits.{leaf_bits}
use Rattle.tree.specs.Blocks.{block_count, left, right, level, first, paint_at, rebuilt}
use Rattle.tree.specs.BlocksLaws.{zero_row, suc_level}
use Rattle.tree.specs.RowsLaws.{paint-whole}
use Rattle.tree.specs.GeometryLaws.{In, at_first, first-place, in_first, pruned_shown, length_shown, rebuilt_is}
use Rattle.tree.specs.Plan.{Weight, pruned}
use Rattle.tree.specs.SumLaws.{tree-sum, flat_is_tree}
use Rattle.tree.specs.TreeBits.{Node, Off, Split, Ends, is_split, reached, grow, node_bits, tree_bits, node_shows}
use Rattle.tree.specs.TreeLaws.{length_grow, grown, length_emit}

-- the first block of a level is the first part of the first block above it
first-left : (e : ℕ) → e ≤ 4 → left (first (suc e)) ≡ first e
first-left zero h = refl
first-left (suc zero) h = refl
first-left (suc (suc zero)) h = refl
first-left (suc (suc (suc zero))) h = refl
first-left (suc (suc (suc (suc zero)))) h = refl
first-left (suc (suc (suc (suc (suc e))))) h = absurd (omega arith)

module _ (d : ℕ) (five : d ≤ 5) (split : ℕ → Bool) (leaf_of : ℕ → Leaf) (low : (i : ℕ) → 31 ≤ i → split i ≡ false) where
  abbrev pub choice : ℕ → Node
  choice i = pick (split i) Split (Ends (leaf_of i))

  abbrev pub tree : List Node
  tree = grow (first d) choice block_count

  abbrev b : ℕ → Node
  b i = get_or tree i Off

  len : length tree ≡ block_count
  len = length_grow (first d) choice block_count

  -- ---- which node stands at each block
  leaf_row : (k : ℕ) (l : Bool) → 31 ≤ k → is_split (pick l (choice k) Off) ≡ false
  leaf_row k true h = ap (λ (f : Bool). is_split (pick f Split (Ends (leaf_of k)))) (low k h)
  leaf_row k false h = refl

  not_split : (k : ℕ) → 31 ≤ k → is_split (b k) ≡ false
  not_split k h =
      elim (dec_lt k block_count) [
        | yes a ↦ ap is_split (grown (first d) choice block_count k a) ∙ leaf_row k (reached (first d) tree k) h
        | no a ↦ ap is_split (get_or-eq_default tree Off {n = k} (omega (arith, len)))
      ]

  not_reached : (i : ℕ) → block_count ≤ i → reached (first d) tree i ≡ false
  not_reached zero h = absurd (omega arith)
  not_reached (suc j) h = rw (ne_eqb (suc j) (first d) (λ e. omega (arith, (at_first d five).1)), not_split (j / 2) (omega arith))

  all : (i : ℕ) → b i ≡ pick (reached (first d) tree i) (choice i) Off
  all i =
      elim (dec_lt i block_count) [
        | yes a ↦ grown (first d) choice block_count i a
        | no a ↦ get_or-eq_default tree Off {n = i} (omega (arith, len)) ∙ sym (rw (not_reached i (omega arith)))
      ]

  -- a part of block i that is not the root is reached where block i is split
  part : (i k : ℕ) (l : Bool) → left i ≤ k → k ≤ right i → (k ≡ first d → ⊥) → is_split (b i) ≡ l → b k ≡ pick l (choice k) Off
  part i zero l x y n h = absurd (omega arith)
  part i (suc j) l x y n h =
      let e : j / 2 ≡ i = omega arith in
      all (suc j) ∙ rw (ne_eqb (suc j) (first d) n, e, h)

  root : b (first d) ≡ choice (first d)
  root = all (first d) ∙ ap (λ (l : Bool). pick l (choice (first d)) Off) (is_reached_lem (first d) refl)
    where
      is_reached_lem : (i : ℕ) → i ≡ first d → reached (first d) tree i ≡ true
      is_reached_lem zero e = eq-eqb zero (first d) e
      is_reached_lem (suc j) e = rw (eq-eqb (suc j) (first d) e)

  -- ---- blocks below which nothing is reached
  abbrev Avoids : ℕ → ℕ → Type 0
  Avoids zero i = Unit
  Avoids (suc e) i = (left i ≡ first d → ⊥) × (right i ≡ first d → ⊥) × Avoids e (left i) × Avoids e (right i)

  avoids_behind : (e i : ℕ) → first d ≤ i → Avoids e i
  avoids_behind zero i h = tt
  avoids_behind (suc e) i h =
      ((λ q. omega arith), (λ q. omega arith), avoids_behind e (left i) (omega arith), avoids_behind e (right i) (omega arith))

  -- beside the first block of its level
  not_first : (e k : ℕ) → level k ≡ e → first e < k → k ≡ first d → ⊥
  not_first e k l h q =
      let same : d ≡ e = sym (at_first d five).0 ∙ ap level (sym q) ∙ l in
      let at : first d ≡ first e = ap first same in
      omega arith

  avoids_beside : (e i : ℕ) → e ≤ 5 → level i ≡ e → first e < i → Avoids e i
  avoids_beside zero i f l h = tt
  avoids_beside (suc e) i f l h =
      let up = first-left e (omega arith) in
      let ll = suc_level i e l (left i) (omega arith) (omega arith) in
      let lr = suc_level i e l (right i) (omega arith) (omega arith) in
      let hl : first e < left i = omega arith in
      let hr : first e < right i = omega arith in
      (not_first e (left i) ll hl, not_first e (right i) lr hr, avoids_beside e (left i) (omega arith) ll hl, avoids_beside e (right i) (omega arith) lr hr)

  module _ (own : ℕ → Node → ℕ) (none : (e : ℕ) → own e Off ≡ 0) where
    off_sum : (e i : ℕ) → b i ≡ Off → Avoids e i → tree-sum own b e i ≡ 0
    unfolding tree-sum
    off_sum zero i h a = ap (own zero) h ∙ none zero
    off_sum (suc e) i h a =
        let n = ap is_split h in
        let el = off_sum e (left i) (part i (left i) false (omega arith) (omega arith) a.0 n) a.2 in
        let er = off_sum e (right i) (part i (right i) false (omega arith) (omega arith) a.1 n) a.3 in
        omega (arith, el, er, ap (own (suc e)) h ∙ none (suc e))

  -- ---- above the root nothing is reached
  above : (fuel i : ℕ) → i < fuel → i < first d → b i ≡ Off
  above zero i f h = absurd (omega arith)
  above (suc n) zero f h = all zero ∙ rw (ne_eqb zero (first d) (λ q. omega arith))
  above (suc n) (suc j) f h =
      all (suc j) ∙ rw (ne_eqb (suc j) (first d) (λ q. omega arith), above n (j / 2) (omega arith) (omega arith))

  first-less : (n : ℕ) → d + suc n ≤ 5 → first (d + suc n) < first d
  first-less n h = go n h
    where
      next : (n : ℕ) → d + suc n ≤ 5 → left (first (d + suc n)) ≡ first (d + n)
      next n h = rw (add-suc d n) (first-left (d + n) (omega arith))

      go : (n : ℕ) → d + suc n ≤ 5 → first (d + suc n) < first d
      go zero h = omega (arith, next zero h, ap first (add-zero d))
      go (suc n) h = omega (arith, next (suc n) h, go n (omega arith))

  module _ (own : ℕ → Node → ℕ) (none : (e : ℕ) → own e Off ≡ 0) where
    -- the sum over the whole tree is the sum from the root on
    from_root : (n : ℕ) → d + n ≤ 5 → tree-sum own b (d + n) (first (d + n)) ≡ tree-sum own b d (first d)
    unfolding tree-sum
    from_root zero h = rw (add-zero d)
    from_root (suc n) h =
        let e = d + n in
        let k = first (suc e) in
        let down : left k ≡ first e = first-left e (omega arith) in
        let less : k < first d = rw (add-suc d n) at (first-less n h) in
        let off : b k ≡ Off = above (suc k) k (omega arith) less in
        let lev = (at_first (suc e) (omega arith)).0 in
        let lr = suc_level k e lev (right k) (omega arith) (omega arith) in
        let beside : first e < right k = omega arith in
        let right-off = part k (right k) false (omega arith) (omega arith) (not_first e (right k) lr beside) (ap is_split off) in
        let zero_right = off_sum own none e (right k) right-off (avoids_beside e (right k) (omega arith) lr beside) in
        let ih = from_root n (omega arith) in
        rw (add-suc d n, tree-sum, down) (omega (arith, ap (own (suc e)) off ∙ none (suc e), zero_right, ih))

  -- ---- bits
  module _ (T : Tables) (weight : ℕ → Weight) (counts : (i : ℕ) → (weight i).bits ≡ length (leaf_bits T (level i) (leaf_of i))) where
    abbrev own : ℕ → Node → ℕ
    own e x = length (node_bits T e x)

    own_off : (e : ℕ) → own e Off ≡ 0
    unfolding node_bits
    own_off e = refl

    abbrev Weighs : ℕ → ℕ → Type 0
    Weighs e i = tree-sum own b e i ≡ (pruned weight split e i).bits

    at_zero : (i : ℕ) → split i ≡ false → level i ≡ zero → b i ≡ choice i → Weighs zero i
    unfolding tree-sum pruned node_bits
    at_zero i f e h =
        let h' : b i ≡ Ends (leaf_of i) = rw f at h in
        ap (own 0) h' ∙ sym (rw e at (counts i))

    at_suc : (e i : ℕ) (f : Bool) → split i ≡ f → level i ≡ suc e → first d ≤ i → b i ≡ choice i
        → ((k : ℕ) → left i ≤ k → k ≤ right i → b k ≡ choice k → Weighs e k) → Weighs (suc e) i
    unfolding tree-sum pruned node_bits
    at_suc e i true f l g h ih =
        let h' : b i ≡ Split = rw f at h in
        let wl = ih (left i) (omega arith) (omega arith) (part i (left i) true (omega arith) (omega arith) (λ q. omega arith) (ap is_split h')) in
        let wr = ih (right i) (omega arith) (omega arith) (part i (right i) true (omega arith) (omega arith) (λ q. omega arith) (ap is_split h')) in
        let ob : own (suc e) (b i) ≡ 1 = ap (own (suc e)) h' in
        rw f (omega arith)
    at_suc e i false f l g h ih =
        let h' : b i ≡ Ends (leaf_of i) = rw f at h in
        let ol = part i (left i) false (omega arith) (omega arith) (λ q. omega arith) (ap is_split h') in
        let or = part i (right i) false (omega arith) (omega arith) (λ q. omega arith) (ap is_split h') in
        let ob : own (suc e) (b i) ≡ suc (length (leaf_bits T (suc e) (leaf_of i))) = ap (own (suc e)) h' in
        let co : (weight i).bits ≡ length (leaf_bits T (suc e) (leaf_of i)) = rw l at (counts i) in
        let bl = off_sum own own_off e (left i) ol (avoids_behind e (left i) (omega arith)) in
        let br = off_sum own own_off e (right i) or (avoids_behind e (right i) (omega arith)) in
        rw f (omega arith)

    weighs : (e i : ℕ) → level i ≡ e → first d ≤ i → b i ≡ choice i → Weighs e i
    weighs zero i l g h = at_zero i (low i (zero_row i l)) l h
    weighs (suc e) i l g h = at_suc e i (split i) refl l g h (λ k x y q. weighs e k (suc_level i e l k x y) (omega arith) q)

    -- the tree's bits are what the pruning by its splits weighs
    pub bits_are : length (tree_bits T tree) ≡ (pruned weight split d (first d)).bits
    unfolding tree_bits
    bits_are =
        let top : d + (5 - d) ≡ 5 = omega arith in
        length_emit T 0 tree ∙ flat_is_tree own tree Off len ∙ (rw top at (from_root own own_off (5 - d) (omega arith)))
        ∙ weighs d (first d) (at_first d five).0 (omega arith) root

  -- ---- what it shows
  module _ (shows : ℕ → Leaf → List ℕ) (lens : (i : ℕ) → i < block_count → In (width d) (level i) i (area d) → length (shows i (leaf_of i)) ≡ area (level i)) where
    abbrev pub show : ℕ → List ℕ
    show i = shows i (leaf_of i)

    abbrev Same : ℕ → ℕ → Type 0
    Same e i =
        (s : ℕ) (m : List ℕ) → rebuilt s (λ k. is_split (b k)) (λ k. node_shows shows k (b k)) e i m ≡ rebuilt s split show e i m

    same_step_lem : (e i : ℕ) (f : Bool) → split i ≡ f → first d ≤ i → b i ≡ choice i
        → ((k : ℕ) → left i ≤ k → k ≤ right i → b k ≡ choice k → Same e k) → Same (suc e) i
    unfolding rebuilt
    same_step_lem e i true f g h ih s m =
        let h' : b i ≡ Split = rw f at h in
        let el = part i (left i) true (omega arith) (omega arith) (λ q. omega arith) (ap is_split h') in
        let er = part i (right i) true (omega arith) (omega arith) (λ q. omega arith) (ap is_split h') in
        rw (f, h') (ap (rebuilt s (λ k. is_split (b k)) (λ k. node_shows shows k (b k)) e (right i)) (ih (left i) (omega arith) (omega arith) el s m)
        ∙ ih (right i) (omega arith) (omega arith) er s (rebuilt s split show e (left i) m))
    same_step_lem e i false f g h ih s m = let h' : b i ≡ Ends (leaf_of i) = rw f at h in rw (f, h')

    same : (e i : ℕ) → level i ≡ e → first d ≤ i → b i ≡ choice i → Same e i
    unfolding rebuilt
    same zero i l g h s m = let h' : b i ≡ Ends (leaf_of i) = rw (low i (zero_row i l)) at h in rw h'
    same (suc e) i l g h s m = same_step_lem e i (split i) refl g h (λ k x y q. same e k (suc_level i e l k x y) (omega arith) q) s m

    -- the reconstruction of the tree is what the splits and leaves show
    pub shown_are : rebuilt (width d) (λ i. is_split (b i)) (λ i. node_shows shows i (b i)) d (first d) (replicate (area d) 0) ≡ pruned_shown split show d (first d)
    unfolding paint_at
    shown_are =
        let at = at_first d five in
        let m : List ℕ = replicate (area d) 0 in
        let long : length (pruned_shown split show d (first d)) ≡ area d = length_shown (width d) (area d) split show lens d (first d) five at.0 at.1 (in_first d five) in
        same d (first d) at.0 (omega arith) root (width d) m
        ∙ rebuilt_is (width d) (area d) split show lens d (first d) m five at.0 at.1 (omega arith) (in_first d five)
        ∙ rw (first-place (width d) d five) (paint-whole (width d) (height d) (pruned_shown split show d (first d)) m long (length-replicate (area d) 0))
