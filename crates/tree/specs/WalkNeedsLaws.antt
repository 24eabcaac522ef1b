-- Laws of a tree as an array of block records, and of writing it block by block.
-- Assumes nothing.
use Rattle.std.specs.Prelude.{◌≡◌, true, false, get_or, set, take}
use Rattle.std.proofs.Math.Path.{refl, ap}
use Rattle.std.proofs.Common.{sym, ◌∙◌, eq-eqb, ne_eqb, take_all}
use mathlib.Core.List.{List, [], ◌∷◌, ◌++◌}
use Prim.Native.Nat.{ℕ, zero, suc, ◌+◌, ◌-◌, ◌/◌, ◌≤◌}
use native.Mathlib.Omega.{arith}
use Rattle.std.proofs.Math.ListN.{length, length-append, get_or-append, get_or-map}
use Rattle.std.proofs.lemmas.List.{length-map}
use Rattle.bits.specs.Bits.{msb}
use Rattle.bits.specs.BitNeeds.{Fits, Wrote}
use Rattle.bits.specs.BitNeedsLaws.{wrote_none}
use Rattle.book.specs.Book.{Tables, tables_of, mean_table, stage_family, stage_table}
use Rattle.book.specs.declared.svq1_vlc.Svq1Half.{Svq1Half}
use Rattle.leaf.specs.Leaf.{Leaf}
use Rattle.leaf.specs.LeafBits.{leaf_bits}
use Rattle.leaf.specs.LentNeeds.{lent_bits, CodeFits, Writable}
use Rattle.leaf.specs.LentNeedsLaws.{book_bits_lem, book_tables}
use Rattle.leaf.specs.LeafForms.{leaf_of}
use Rattle.leaf.specs.declared.svq1_enc_leaf.LeafCode.{LeafCode}
use Rattle.leaf.specs.declared.svq1_enc_leaf.LeafCode.TheVariants as code
use Rattle.tree.specs.Blocks.{block_count}
use Rattle.tree.specs.TreeBits.{Node, Off, Split, Ends, is_split, reached, node_bits, emit, tree_bits}
use Rattle.tree.specs.NodeForms.{node_of, tree_of}
use Rattle.tree.specs.WalkNeeds.{leaf_flag, Sound, LeafRoom, NodeRoom, TreeRoom}
use Rattle.tree.specs.declared.svq1_enc_tree.TreeNode.TheVariants as node
use Rattle.tree.specs.declared.svq1_enc_tree.Block.{Block}

-- ---- the array and its nodes
-- the block past the end of an array
abbrev pub nowhere : Block
nowhere = record { node = node.Off; stages = [] }

pub tree_at : (a : List Block) (i : ℕ) → get_or (tree_of a) i Off ≡ node_of (get_or a i nowhere)
unfolding tree_of
tree_at a i = get_or-map node_of a i nowhere

pub tree-length : (a : List Block) → length (tree_of a) ≡ length a
unfolding tree_of
tree-length a = length-map a node_of

pub tree_set : (a : List Block) (i : ℕ) (b : Block) → tree_of (set a i b) ≡ set (tree_of a) i (node_of b)
unfolding tree_of
tree_set [] i b = refl
tree_set (x ∷ a) zero b = refl
tree_set (x ∷ a) (suc i) b = ap (λ (t : List Node). node_of x ∷ t) (tree_set a i b)

-- ---- which blocks are reached
module _ (r : ℕ) (t : List Node) where
  pub reached-root : (i : ℕ) → i ≡ r → true ≡ reached r t i
  reached-root zero e = sym (eq-eqb zero r e)
  reached-root (suc j) e = sym (rw (eq-eqb (suc j) r e))

  pub reached-none : (i : ℕ) → (i ≡ r → ⊥) → i ≡ 0 → false ≡ reached r t i
  reached-none i n e = rw e (sym (ne_eqb 0 r (rw e at n)))

  pub reached_up : (i : ℕ) → (i ≡ r → ⊥) → (i ≡ 0 → ⊥) → is_split (get_or t ((i - 1) / 2) Off) ≡ reached r t i
  reached_up zero n z = absurd (z refl)
  reached_up (suc j) n z = let e : suc j - 1 ≡ j = omega arith in rw (e, ne_eqb (suc j) r n)

pub reached_front : (r : ℕ) (acc u : List Node) (i : ℕ) → i ≤ length acc → reached r (acc ++ u) i ≡ reached r acc i
reached_front r acc u zero h = refl
reached_front r acc u (suc j) h = rw (get_or-append acc u Off (j / 2) (omega arith))

-- ---- a node's bits by its case
module _ (T : Tables) (d : ℕ) where
  pub off_bits : (x : Node) → x ≡ Off → node_bits T d x ≡ []
  unfolding node_bits
  off_bits x e = rw e

  pub split_bits : (x : Node) → x ≡ Split → node_bits T d x ≡ 1 ∷ []
  unfolding node_bits
  split_bits x e = rw e

  pub leaf_bits_lem : (x : Node) (l : Leaf) → x ≡ Ends l → node_bits T d x ≡ leaf_flag d ++ leaf_bits T d l
  unfolding node_bits leaf_flag
  leaf_bits_lem x l e = ap (node_bits T d) e ∙ go d
    where
      go : (k : ℕ) → node_bits T k (Ends l) ≡ leaf_flag k ++ leaf_bits T k l
      go zero = refl
      go (suc k) = refl

pub flag_none : (d : ℕ) → d ≡ 0 → leaf_flag d ≡ []
unfolding leaf_flag
flag_none d e = rw e

pub flag_zero : (d : ℕ) → (d ≡ 0 → ⊥) → leaf_flag d ≡ msb 1 0
unfolding leaf_flag msb
flag_zero zero n = absurd (n refl)
flag_zero (suc d) n = refl

pub flag_fits : (d : ℕ) → (d ≡ 0 → ⊥) → {bytes at : ℕ} → Fits bytes at (length (leaf_flag d)) → Fits bytes at 1
unfolding leaf_flag
flag_fits zero n f = absurd (n refl)
flag_fits (suc d) n f = f

pub split_one : msb 1 1 ≡ 1 ∷ []
unfolding msb
split_one = refl

-- what was written, by another name of the same bits
pub wrote_as : {out left : List ℕ} {at next : ℕ} (xs ys : List ℕ) → ys ≡ xs → Wrote out at xs next left → Wrote out at ys next left
wrote_as xs ys e w = rw e w

pub fits-part : {bytes at n : ℕ} (m : ℕ) → m ≤ n → Fits bytes at n → Fits bytes at m
fits-part m h f = record { bytes_fit = f.bytes_fit; bits_fit = omega (arith, f.bits_fit) }

-- a leaf behind its flag, in a block that has room
module _ (book : List ℕ) (half : Svq1Half) (d : ℕ) (x : Node) (bytes at : ℕ) (r : NodeRoom book half d x bytes at) where
  pub split_room : x ≡ Split → Fits bytes at 1
  split_room e = rw (split_bits (tables_of book half) d x e) at r.room

  module _ (l : Leaf) (e : x ≡ Ends l) where
    leaf_whole : Fits bytes at (length (leaf_flag d) + length (leaf_bits (tables_of book half) d l))
    leaf_whole = rw (leaf_bits_lem (tables_of book half) d x l e, length-append (leaf_flag d) (leaf_bits (tables_of book half) d l)) at r.room

    pub flag_room : Fits bytes at (length (leaf_flag d))
    flag_room = fits-part (length (leaf_flag d)) (omega arith) leaf_whole

    pub leaf_room : {out mid : List ℕ} {k : ℕ} → length out ≡ bytes → Wrote out at (leaf_flag d) k mid → (n : ℕ) → n ≡ length out → LeafRoom book half d l n k
    leaf_room {out} {mid} {k} size w n same =
        record {
          passes = r.passes;
          deep = r.deep;
          sound = rw e at r.sound;
          room = record { bytes_fit = omega (arith, leaf_whole.bytes_fit); bits_fit = omega (arith, w.behind, leaf_whole.bits_fit) };
        }

-- ---- a leaf by the tables of a book
sound_fits : (h : Svq1Half) (d : ℕ) (c : LeafCode) (js : List ℕ) → Sound h d (leaf_of c js) → CodeFits h c
sound_fits h d code.Skip js a = tt
sound_fits h d (code.Coded m n) js a = a.place

module _ (book : List ℕ) (half : Svq1Half) (d : ℕ) (stage mean : List ℕ) (is-stage : stage ≡ stage_table d (stage_family half book)) (is-mean : mean ≡ mean_table half book) where
  lent_bits_lem : (l : Leaf) → lent_bits half stage mean l ≡ leaf_bits (tables_of book half) d l
  lent_bits_lem l = rw (is-stage, is-mean) (book_bits_lem book half d l)

  pub leaf_lent : (c : LeafCode) (js : List ℕ) (bytes at : ℕ) → LeafRoom book half d (leaf_of c js) bytes at → Writable half stage mean c js bytes at
  leaf_lent c js bytes at r =
      record {
        tables = rw (is-stage, is-mean) (book_tables book r.passes half d r.deep);
        known = sound_fits half d c js r.sound;
        room = rw (lent_bits_lem (leaf_of c js)) r.room;
      }

  pub leaf_wrote : {out left : List ℕ} {at next : ℕ} (l : Leaf) → Wrote out at (lent_bits half stage mean l) next left
      → Wrote out at (leaf_bits (tables_of book half) d l) next left
  leaf_wrote l w = wrote_as (lent_bits half stage mean l) (leaf_bits (tables_of book half) d l) (sym (lent_bits_lem l)) w

-- ---- writing block by block
-- the first i blocks are written
pub record Emitting (T : Tables) (t : List Node) (old : List ℕ) (at : ℕ) (new : List ℕ) (k i : ℕ) : Type 0 where
  pub upto : i ≤ block_count
  pub same : length new ≡ length old
  pub done : Wrote old at (emit T 0 (take i t)) k new

module _ (book : List ℕ) (half : Svq1Half) (t : List Node) (len : length t ≡ block_count) (old : List ℕ) (at : ℕ) (r : TreeRoom book half t (length old) at) where
  abbrev T : Tables
  T = tables_of book half

  pub emit-begins : Emitting T t old at old at 0
  unfolding emit
  emit-begins = record { upto = omega arith; same = refl; done = wrote_none old at }

  pub emit_ends : (new : List ℕ) (k i : ℕ) → Emitting T t old at new k i → block_count ≤ i → Wrote old at (tree_bits T t) k new
  unfolding tree_bits
  emit_ends new k i e h = rw (take_all i t (omega arith)) at e.done
