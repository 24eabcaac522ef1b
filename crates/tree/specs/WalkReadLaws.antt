-- Laws of reading a tree block by block into an array.
-- Assumes nothing.
use Rattle.std.specs.Prelude.{◌≡◌, Bool, true, false, length, get_or, set, take, Result, Ok, Err}
use Rattle.std.proofs.Math.Path.{refl, sym, ap}
use Rattle.std.proofs.Common.{◌∙◌, add-one, length-append, drop_of_length-le}
use mathlib.Core.List.{List, [], ◌∷◌, ◌++◌, append-nil}
use Prim.Native.Nat.{ℕ, zero, suc, ◌+◌, ◌-◌, ◌*◌, ◌≤◌, ◌<◌}
use native.Mathlib.Omega.{arith}
use Rattle.std.proofs.Math.ListN.{drop, replicate}
use Rattle.std.proofs.Math.Seq.{append_snoc, drop-cons}
use Rattle.std.proofs.lemmas.List.{set_at}
use Rattle.bits.specs.Bits.{bits_of, val_of}
use Rattle.bits.specs.BitsLaws.{length_bits_of}
use Rattle.bits.specs.Refusals.{number_of}
use Rattle.bits.specs.declared.refusal.Refusal.{Refusal}
use Rattle.code_tables.specs.Codes.{Got, got, bad, then}
use Rattle.book.specs.Book.{Tables, tables_of, mean_table, stage_family, stage_table}
use Rattle.book.specs.declared.svq1_vlc.Svq1Half.{Svq1Half}
use Rattle.leaf.specs.LentNeeds.{lent_tables, LeafRead}
use Rattle.leaf.specs.LentReadLaws.{book_read_lem}
use Rattle.leaf.specs.declared.svq1_plane.inner.ReadLeaf.{ReadLeaf}
use Rattle.leaf.specs.LeafBits.{read_leaf}
use Rattle.tree.specs.Blocks.{block_count, level, first}
use Rattle.tree.specs.TreeBits.{Node, Off, Split, reached, as_node, read_node, read_if, read_from, read_tree}
use Rattle.tree.specs.NodeForms.{node_of, tree_of}
use Rattle.tree.specs.WalkNeeds.{node_got, LeafHere, NodeHere, TreeHere}
use Rattle.tree.specs.WalkNeedsLaws.{tree_set, reached_front}
use Rattle.tree.specs.declared.svq1_enc_tree.TreeNode.TheVariants as node
use Rattle.tree.specs.declared.svq1_enc_tree.Block.{Block}
use Rattle.tree.specs.declared.svq1_enc_tree.inner.walk.ReadNode.{ReadNode}

-- ---- one block
-- a leaf by the tables of a book
by_book : (book : List ℕ) (half : Svq1Half) (d : ℕ) (stage mean bits : List ℕ) → stage ≡ stage_table d (stage_family half book) → mean ≡ mean_table half book
    → read_leaf (lent_tables half stage mean) d bits ≡ read_leaf (tables_of book half) d bits
by_book book half d stage mean bits is-stage is-mean = rw (is-stage, is-mean) (book_read_lem book half d bits)

pub leaf_here : (book : List ℕ) (half : Svq1Half) (d : ℕ) (stage mean s : List ℕ) (at : ℕ) (g : ReadLeaf) → stage ≡ stage_table d (stage_family half book) → mean ≡ mean_table half book
    → LeafRead (bits_of s) (read_leaf (lent_tables half stage mean) d (drop at (bits_of s))) (Ok g)
    → LeafHere (tables_of book half) d s at (Ok (record { next = g.next; block = record { node = node.Leaf g.code; stages = g.stages } }))
leaf_here book half d stage mean s at g is-stage is-mean l =
    record { is = ap as_node (l.leaf ∙ by_book book half d stage mean (drop at (bits_of s)) is-stage is-mean); within = rw length_bits_of at l.within }

pub leaf_refused : (book : List ℕ) (half : Svq1Half) (d : ℕ) (stage mean s : List ℕ) (at : ℕ) (r : Refusal) → stage ≡ stage_table d (stage_family half book) → mean ≡ mean_table half book
    → LeafRead (bits_of s) (read_leaf (lent_tables half stage mean) d (drop at (bits_of s))) (Err r) → LeafHere (tables_of book half) d s at (Err r)
leaf_refused book half d stage mean s at r is-stage is-mean l =
    record { is = ap as_node (l.leaf ∙ by_book book half d stage mean (drop at (bits_of s)) is-stage is-mean); within = tt }

-- a flag stands before a block above L0
module _ (T : Tables) (d k : ℕ) (bits : List ℕ) where
  pub flag_none : d ≡ 0 → as_node (read_leaf T d (drop k bits)) ≡ read_node T d (drop k bits)
  unfolding read_node
  flag_none z = rw z

  module _ (n : d ≡ 0 → ⊥) where
    pub flag_short : length bits ≤ k → bad 24 ≡ read_node T d (drop k bits)
    unfolding read_node
    flag_short h = sym (rw (drop_of_length-le bits {i = k} h) (go d n))
      where
        go : (e : ℕ) → (e ≡ 0 → ⊥) → read_node T e [] ≡ bad 24
        go zero z = absurd (z refl)
        go (suc e) z = refl

    module _ (h : k < length bits) where
      abbrev flag : ℕ
      flag = get_or bits k 0

      flag_value : val_of (take 1 (drop k bits)) ≡ flag
      unfolding val_of
      flag_value = rw (drop-cons bits k 0 h) (omega arith)

      pub flag_leaf : val_of (take 1 (drop k bits)) ≡ 0 → as_node (read_leaf T d (drop (k + 1) bits)) ≡ read_node T d (drop k bits)
      unfolding read_node
      flag_leaf z = rw (add-one, drop-cons bits k 0 h, sym flag_value ∙ z) (go d n)
        where
          go : (e : ℕ) → (e ≡ 0 → ⊥) → as_node (read_leaf T e (drop (suc k) bits)) ≡ read_node T e (0 ∷ drop (suc k) bits)
          go zero w = absurd (w refl)
          go (suc e) w = refl

      pub flag_split : (val_of (take 1 (drop k bits)) ≡ 0 → ⊥) → got Split (drop (k + 1) bits) ≡ read_node T d (drop k bits)
      unfolding read_node
      flag_split z = rw (add-one, drop-cons bits k 0 h) (go d flag n (λ e. z (flag_value ∙ e)))
        where
          go : (e f : ℕ) → (e ≡ 0 → ⊥) → (f ≡ 0 → ⊥) → got Split (drop (suc k) bits) ≡ read_node T e (f ∷ drop (suc k) bits)
          go zero f w v = absurd (w refl)
          go (suc e) zero w v = absurd (v refl)
          go (suc e) (suc f) w v = refl

-- ---- the tree
-- i blocks have been read: they are the first of t, and reading on from bit k gives the whole
pub record Reading (T : Tables) (r : ℕ) (s : List ℕ) (whole : Got (List Node)) (t : List Block) (k i : ℕ) : Type 0 where
  pub read : List Node
  pub upto : i ≤ block_count
  pub count : length read ≡ i
  pub front : tree_of t ≡ read ++ replicate (block_count - i) Off
  pub on : read_from T r (block_count - i) read (drop k (bits_of s)) ≡ whole
  pub within : k ≤ 8 * length s

module _ (T : Tables) (r : ℕ) (s : List ℕ) (whole : Got (List Node)) (t : List Block) (k i : ℕ) (g : Reading T r s whole t k i) (h : i < block_count) where
  abbrev more : Node → List ℕ → Got (List Node)
  more x rest = read_from T r (block_count - (i + 1)) (g.read ++ (x ∷ [])) rest

  one_less : block_count - i ≡ suc (block_count - (i + 1))
  one_less = omega arith

  one_on : then (read_if T (reached r (tree_of t) i) (level i) (drop k (bits_of s))) more ≡ whole
  unfolding read_from
  one_on =
      let f : reached r (tree_of t) i ≡ reached r g.read i =
      ap (λ (l : List Node). reached r l i) g.front ∙ reached_front r g.read (replicate (block_count - i) Off) i (omega (arith, g.count)) in
      ap (λ (b : Bool). then (read_if T b (level i) (drop k (bits_of s))) more) f
      ∙ ap (λ (n : ℕ). then (read_if T (reached r g.read n) (level n) (drop k (bits_of s))) more) (sym g.count)
      ∙ ap (λ (n : ℕ). read_from T r n g.read (drop k (bits_of s))) (sym one_less)
      ∙ g.on

  longer : (x : Node) → length (g.read ++ (x ∷ [])) ≡ i + 1
  longer x = length-append g.read (x ∷ []) ∙ ap (λ (n : ℕ). n + 1) g.count

  pub passed : reached r (tree_of t) i ≡ false → Reading T r s whole t k (i + 1)
  passed f =
      record {
        read = g.read ++ (Off ∷ []);
        upto = omega arith;
        count = longer Off;
        front = g.front ∙ ap (λ (n : ℕ). g.read ++ replicate n Off) one_less ∙ sym (append_snoc g.read Off (replicate (block_count - (i + 1)) Off));
        on = rw f at one_on;
        within = g.within;
      }

  module _ (d : ℕ) (deep : d ≡ level i) (f : reached r (tree_of t) i ≡ true) where
    on_from : (n : Result ReadNode Refusal) → NodeHere T d s k n → then (node_got (bits_of s) n) more ≡ whole
    on_from n e = ap (λ (x : Got Node). then x more) (e.is ∙ ap (λ (y : ℕ). read_node T y (drop k (bits_of s))) deep) ∙ rw f at one_on

    pub taken : (n : ReadNode) → NodeHere T d s k (Ok n) → Reading T r s whole (set t i n.block) n.next (i + 1)
    taken n e =
        let x = node_of n.block in
        record {
          read = g.read ++ (x ∷ []);
          upto = omega arith;
          count = longer x;
          front = tree_set t i n.block ∙ rw (g.front, one_less)
              (set_at g.read Off (replicate (block_count - (i + 1)) Off) x i g.count ∙ sym (append_snoc g.read x (replicate (block_count - (i + 1)) Off)));
          on = on_from (Ok n) e;
          within = e.within;
        }

    pub refused : (n : Refusal) → NodeHere T d s k (Err n) → bad (number_of n) ≡ whole
    refused n e = on_from (Err n) e

pub moved : (T : Tables) (r : ℕ) (s : List ℕ) (whole : Got (List Node)) (t t' : List Block) (k k' i : ℕ) → t' ≡ t → k' ≡ k
    → Reading T r s whole t k i → Reading T r s whole t' k' i
moved T r s whole t t' k k' i et ek g = rw (et, ek) g

module _ (T : Tables) (d : ℕ) (s : List ℕ) (at : ℕ) (r : ℕ) (root : r ≡ first d) where
  abbrev whole : Got (List Node)
  whole = read_tree T d (drop at (bits_of s))

  pub read_begins : (t : List Block) → tree_of t ≡ replicate block_count Off → at ≤ 8 * length s → Reading T r s whole t at 0
  unfolding read_tree
  read_begins t e h =
      record {
        read = [];
        upto = omega arith;
        count = refl;
        front = e;
        on = ap (λ (n : ℕ). read_from T n block_count [] (drop at (bits_of s))) root;
        within = h;
      }

  pub read_ends : (t : List Block) (k i : ℕ) → Reading T r s whole t k i → block_count ≤ i → TreeHere T d s at (Ok (record { next = k; blocks = t }))
  unfolding read_from
  read_ends t k i g h =
      let z : block_count - i ≡ 0 = omega arith in
      record {
        is = ap (λ (l : List Node). got l (drop k (bits_of s))) (g.front ∙ ap (λ (n : ℕ). g.read ++ replicate n Off) z ∙ append-nil g.read) ∙ rw z at g.on;
        within = g.within;
      }

  pub read_refused : (n : Refusal) → bad (number_of n) ≡ whole → TreeHere T d s at (Err n)
  read_refused n e = record { is = e; within = tt }
