-- The tree that the planned blocks make, block by block.
-- Assumes nothing.
use Rattle.std.specs.Prelude.{◌≡◌, Bool, true, false, List, [], ◌∷◌, ◌++◌, set, replicate}
use Rattle.std.proofs.Math.Path.{refl, ap}
use Rattle.std.proofs.Common.{sym, ◌∙◌, append-nil}
use Prim.Native.Nat.{ℕ, suc, ◌+◌, ◌-◌, ◌≤◌, ◌<◌}
use native.Mathlib.Omega.{arith}
use Rattle.std.proofs.Math.Seq.{append_snoc}
use Rattle.std.proofs.lemmas.List.{set_at}
use Rattle.bits.specs.Basics.{pick, All}
use Rattle.tree.specs.Blocks.{block_count}
use Rattle.tree.specs.NodeForms.{node_of, tree_of, off_block, CleanBlock}
use Rattle.tree.specs.TreeBits.{Node, Off, reached, grow}
use Rattle.tree.specs.TreeLaws.{length_grow}
use Rattle.tree.specs.WalkNeedsLaws.{tree_set, reached_front}
use Rattle.tree.specs.declared.svq1_enc_tree.Block.{Block}
use Rattle.bits.specs.ListLaws.{all_set, all_repeat}

-- the first i nodes of what the planned blocks make stand in the array t, whose blocks have their one form
pub record Growing (r : ℕ) (choose : ℕ → Node) (t : List Block) (i : ℕ) : Type 0 where
  pub upto : i ≤ block_count
  pub front : tree_of t ≡ grow r choose i ++ replicate (block_count - i) Off
  pub clean : All CleanBlock t

module _ (r : ℕ) (choose : ℕ → Node) where
  pub grow-begins : (t : List Block) → t ≡ replicate block_count off_block → Growing r choose t 0
  unfolding grow tree_of
  grow-begins t e = rw e (record { upto = omega arith; front = refl; clean = all_repeat CleanBlock block_count off_block refl })

  pub grow_ends : (t : List Block) (i : ℕ) → Growing r choose t i → block_count ≤ i → tree_of t ≡ grow r choose block_count
  grow_ends t i g h =
      let z : i ≡ block_count = omega (arith, g.upto) in
      let none : block_count - i ≡ 0 = omega arith in
      g.front ∙ ap (λ (n : ℕ). grow r choose i ++ replicate n Off) none ∙ append-nil (grow r choose i) ∙ ap (grow r choose) z

  pub grow-moved : (t u : List Block) (i : ℕ) → u ≡ t → Growing r choose t i → Growing r choose u i
  grow-moved t u i e g = rw e g

  module _ (t : List Block) (i : ℕ) (g : Growing r choose t i) (h : i < block_count) where
    one_less : block_count - i ≡ suc (block_count - (i + 1))
    one_less = omega arith

    front_less : tree_of t ≡ grow r choose i ++ (Off ∷ replicate (block_count - (i + 1)) Off)
    front_less = g.front ∙ ap (λ (n : ℕ). grow r choose i ++ replicate n Off) one_less

    same-reached : reached r (tree_of t) i ≡ reached r (grow r choose i) i
    same-reached =
        ap (λ (l : List Node). reached r l i) g.front
        ∙ reached_front r (grow r choose i) (replicate (block_count - i) Off) i (omega (arith, length_grow r choose i))

    longer : (x : Node) → pick (reached r (tree_of t) i) (choose i) Off ≡ x → grow r choose (i + 1) ≡ grow r choose i ++ (x ∷ [])
    unfolding grow
    longer x e =
        let s : i + 1 ≡ suc i = omega arith in
        ap (grow r choose) s ∙ ap (λ (b : Bool). grow r choose i ++ (pick b (choose i) Off ∷ [])) (sym same-reached) ∙ ap (λ (y : Node). grow r choose i ++ (y ∷ [])) e

    pub grow_passed : reached r (tree_of t) i ≡ false → Growing r choose t (i + 1)
    grow_passed f =
        record {
          upto = omega arith;
          front = front_less ∙ sym (rw (longer Off (rw f)) (append_snoc (grow r choose i) Off (replicate (block_count - (i + 1)) Off)));
          clean = g.clean;
        }

    pub grow-taken : (b : Block) → reached r (tree_of t) i ≡ true → node_of b ≡ choose i → CleanBlock b → Growing r choose (set t i b) (i + 1)
    grow-taken b f e c =
        record {
          upto = omega arith;
          front = tree_set t i b ∙ rw (front_less, longer (node_of b) (rw f (sym e)))
              (set_at (grow r choose i) Off (replicate (block_count - (i + 1)) Off) (node_of b) i (length_grow r choose i) ∙ sym (append_snoc (grow r choose i) (node_of b) (replicate (block_count - (i + 1)) Off)));
          clean = all_set CleanBlock t i b c g.clean;
        }
