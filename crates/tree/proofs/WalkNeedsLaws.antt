-- Writing the tree block by block: a block more.
-- Assumes nothing.
use Rattle.std.specs.Prelude.{◌≡◌, get_or, take, drop}
use Rattle.std.proofs.Math.Path.{ap}
use Rattle.std.proofs.Common.{◌∙◌, add-zero, add-one, take-append-drop}
use mathlib.Core.List.{List, [], ◌∷◌, ◌++◌, append_assoc, append-nil}
use Prim.Native.Nat.{ℕ, suc, ◌+◌, ◌≤◌, ◌<◌}
use native.Mathlib.Omega.{arith}
use Rattle.std.proofs.Math.Nat.{zero-add}
use Rattle.std.proofs.Math.ListN.{length, length-append}
use Rattle.std.proofs.Math.Seq.{take-suc, length-take-le}
use Rattle.bits.specs.BitNeeds.{Wrote}
use Rattle.bits.specs.BitNeedsLaws.{wrote_more}
use Rattle.book.specs.Book.{Tables, tables_of}
use Rattle.book.specs.declared.svq1_vlc.Svq1Half.{Svq1Half}
use Rattle.tree.specs.Blocks.{block_count, level}
use Rattle.tree.specs.BlocksLaws.{level_le}
use Rattle.tree.specs.TreeBits.{Node, Off, node_bits, emit, tree_bits}
use Rattle.tree.specs.WalkNeeds.{NodeRoom, TreeRoom}
use Rattle.tree.specs.WalkNeedsLaws.{Emitting}

emit-append : (T : Tables) (j : ℕ) (xs ys : List Node) → emit T j (xs ++ ys) ≡ emit T j xs ++ emit T (j + length xs) ys
unfolding emit
emit-append T j [] ys = rw add-zero
emit-append T j (x ∷ xs) ys =
    let e : suc j + length xs ≡ j + suc (length xs) = omega arith in
    rw (append_assoc, ← e) (ap (λ (l : List ℕ). node_bits T (level j) x ++ l) (emit-append T (suc j) xs ys))

module _ (book : List ℕ) (half : Svq1Half) (t : List Node) (len : length t ≡ block_count) (old : List ℕ) (at : ℕ) (r : TreeRoom book half t (length old) at) where
  abbrev T : Tables
  T = tables_of book half

  abbrev bits_at : ℕ → List ℕ
  bits_at i = node_bits T (level i) (get_or t i Off)

  more_bits : (i : ℕ) → i < block_count → emit T 0 (take (i + 1) t) ≡ emit T 0 (take i t) ++ bits_at i
  unfolding emit
  more_bits i h =
      let l : length (take i t) ≡ i = length-take-le i t (omega arith) in
      let in_tree : i < length t = omega arith in
      rw (add-one, take-suc t i Off in_tree, emit-append T 0 (take i t) (get_or t i Off ∷ []), l, zero-add i, append-nil (bits_at i))

  -- the bits of the first i blocks are no more than all
  few_bits : (i : ℕ) → i ≤ block_count → length (emit T 0 (take i t)) ≤ length (tree_bits T t)
  unfolding tree_bits
  few_bits i h =
      omega (
        arith,
        ap (λ (l : List Node). length (emit T 0 l)) (take-append-drop i t),
        ap length (emit-append T 0 (take i t) (drop i t)),
        length-append (emit T 0 (take i t)) (emit T (0 + length (take i t)) (drop i t)),
      )

  module _ (new : List ℕ) (k i : ℕ) (e : Emitting T t old at new k i) (h : i < block_count) (d : ℕ) (deep : d ≡ level i) (x : Node) (here : x ≡ get_or t i Off) where
    pub node_room : NodeRoom book half d x (length new) k
    node_room =
        rw (here, deep)
        (record {
          passes = r.passes;
          deep = level_le i;
          sound = r.sound i;
          room = record {
            bytes_fit = omega (arith, r.room.bytes_fit, e.same);
            bits_fit = omega (arith, r.room.bits_fit, e.same, e.done.behind, few_bits (i + 1) (omega arith), ap length (more_bits i h), length-append (emit T 0 (take i t)) (bits_at i));
          };
        })

    pub emit_turn : (new' : List ℕ) (k' : ℕ) → length new' ≡ length new → Wrote new k (node_bits T d x) k' new' → Emitting T t old at new' k' (i + 1)
    emit_turn new' k' size w =
        record {
          upto = omega arith;
          same = size ∙ e.same;
          done = rw (more_bits i h) (wrote_more (omega (arith, r.room.bits_fit)) e.done (rw (here, deep) at w));
        }
