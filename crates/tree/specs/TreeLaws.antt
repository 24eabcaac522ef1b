-- Laws of the tree as 63 nodes: what a choice at each block makes, reading it back, and how many bits it has.
-- Assumes nothing.
use Rattle.std.specs.Prelude.{◌≡◌, Bool, ◌||◌, eqb, get_or}
use Rattle.std.proofs.Math.Path.{refl}
use Rattle.std.proofs.Common.{sym, ap, ◌∙◌, arith}
use mathlib.Core.List.{List, [], ◌∷◌, ◌++◌}
use Prim.Native.Nat.{ℕ, zero, suc, ◌/◌, ◌≤◌, ◌<◌}
use Rattle.std.proofs.Math.Decide.{dec_lt}
use Rattle.std.proofs.Math.ListN.{length, length-append, get_or-append}
use Rattle.std.proofs.lemmas.List.{get_or_at}
use Rattle.bits.specs.Basics.{pick}
use Rattle.code_tables.specs.Codes.{got}
use Rattle.book.specs.Book.{Tables}
use Rattle.book.specs.BookLaws.{GoodTables}
use Rattle.leaf.specs.LeafBitsLaws.{AllowedLeaf, read_leaf_lem}
use Rattle.tree.specs.Blocks.{level}
use Rattle.tree.specs.SumLaws.{list_sum}
use Rattle.tree.specs.TreeBits.{Node, Off, Split, Ends, is_split, reached, grow, node_bits, emit, as_node, read_node}

-- a node that may stand at a block of level d that is reached
abbrev pub TreeStands : Tables → ℕ → Node → Type 0
TreeStands T d Off = ⊥
TreeStands T zero Split = ⊥
TreeStands T (suc d) Split = Unit
TreeStands T d (Ends l) = (d ≤ 5) × AllowedLeaf T d l

pub read_node_lem : (T : Tables) → GoodTables T → (d : ℕ) (x : Node) (r : List ℕ) → TreeStands T d x → read_node T d (node_bits T d x ++ r) ≡ got x r
unfolding node_bits read_node
read_node_lem T g d Off r h = absurd h
read_node_lem T g zero Split r h = absurd h
read_node_lem T g (suc d) Split r h = refl
read_node_lem T g zero (Ends l) r h = ap as_node (read_leaf_lem T g zero l r h.0 h.1)
read_node_lem T g (suc d) (Ends l) r h = ap as_node (read_leaf_lem T g (suc d) l r h.0 h.1)

-- ---- the tree that a choice at each block makes, with block r for its root
module _ (r : ℕ) where
  pub reached-append : (t u : List Node) (i : ℕ) → i ≤ length t → reached r (t ++ u) i ≡ reached r t i
  reached-append t u zero h = refl
  reached-append t u (suc j) h = ap (λ (x : Node). eqb (suc j) r || is_split x) (get_or-append t u Off (j / 2) (omega arith))

  module _ (choose : ℕ → Node) where
    pub length_grow : (n : ℕ) → length (grow r choose n) ≡ n
    unfolding grow
    length_grow zero = refl
    length_grow (suc n) = simp (length-append, length_grow n) (omega arith)

    abbrev Grown : List Node → ℕ → Type 0
    Grown t i = get_or t i Off ≡ pick (reached r t i) (choose i) Off

    one_more : (t : List Node) (n i : ℕ) → length t ≡ n → (i < n → Grown t i) → i < suc n → Grown (t ++ (pick (reached r t n) (choose n) Off ∷ [])) i
    one_more t n i len ih h = go (dec_lt i n)
      where
        x : Node
        x = pick (reached r t n) (choose n) Off

        go : Dec (i < n) → Grown (t ++ (x ∷ [])) i
        go (yes k) =
            get_or-append t (x ∷ []) Off i (omega arith) ∙ ih k
            ∙ ap (λ (l : Bool). pick l (choose i) Off) (sym (reached-append t (x ∷ []) i (omega arith)))
        go (no k) =
            let e : i ≡ n = omega arith in
            rw e (get_or_at t x [] Off n len ∙ ap (λ (l : Bool). pick l (choose n) Off) (sym (reached-append t (x ∷ []) n (omega arith))))

    pub grown : (n i : ℕ) → i < n → Grown (grow r choose n) i
    unfolding grow
    grown zero i h = absurd (omega arith)
    grown (suc n) i h = one_more (grow r choose n) n i (length_grow n) (grown n i) h

pub length_emit : (T : Tables) (i : ℕ) (t : List Node) → length (emit T i t) ≡ list_sum (λ d x. length (node_bits T d x)) level i t
unfolding emit
length_emit T i [] = refl
length_emit T i (x ∷ t) = simp length-append (omega (arith, length_emit T (suc i) t))
