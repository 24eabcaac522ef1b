-- A tree as 63 nodes: the plan's tree, its bits level by level, reading one, and what it shows (document 01, `svq1_enc_tree.rs`, "Reading").
use Rattle.std.specs.Prelude.{ℕ, zero, suc, ◌/◌, Bool, true, false, ◌||◌, List, [], ◌∷◌, ◌++◌, eqb, length, get_or, replicate}
use Rattle.bits.specs.Basics.{pick}
use Rattle.code_tables.specs.Codes.{Got, got, bad, then}
use Rattle.book.specs.Book.{Tables}
use Rattle.book.specs.Level.{width, area}
use Rattle.leaf.specs.Leaf.{Leaf, Vectors}
use Rattle.leaf.specs.LeafBits.{leaf_bits, read_leaf}
use Rattle.tree.specs.Blocks.{block_count, level, first, rebuilt}
use Rattle.tree.specs.Plan.{Planning, root, leaf_at, shown_at, plan_splits}

-- a block that the tree does not reach, a split, a leaf
pub data Node : Type 0 where
  Off Split : Node
  Ends : Leaf → Node

abbrev pub is_split : Node → Bool
is_split Off = false
is_split Split = true
is_split (Ends l) = false

-- block i is reached: it is the root, or its parent is split
abbrev pub reached : ℕ → List Node → ℕ → Bool
reached r t zero = eqb zero r
reached r t (suc j) = eqb (suc j) r || is_split (get_or t (j / 2) Off)

-- the first n nodes of the tree that a choice at each block makes
unfoldable pub grow : ℕ → (ℕ → Node) → ℕ → List Node
grow r choose zero = []
grow r choose (suc n) = let t = grow r choose n in t ++ (pick (reached r t n) (choose n) Off ∷ [])

-- the plan's tree
unfoldable pub plan_tree : Planning → List Node
plan_tree g = grow (root g) (λ i. pick (plan_splits g i) Split (Ends (leaf_at g i))) block_count

-- ---- bits
-- a flag, 1 for a split and 0 for a leaf, precedes each block except at L0
unfoldable pub node_bits : Tables → ℕ → Node → List ℕ
node_bits T d Off = []
node_bits T d Split = 1 ∷ []
node_bits T zero (Ends l) = leaf_bits T zero l
node_bits T (suc d) (Ends l) = 0 ∷ leaf_bits T (suc d) l

-- the bits of the blocks from number i on: by number is level by level, L5 first
unfoldable pub emit : Tables → ℕ → List Node → List ℕ
emit T i [] = []
emit T i (x ∷ t) = node_bits T (level i) x ++ emit T (suc i) t

unfoldable pub tree_bits : Tables → List Node → List ℕ
tree_bits T t = emit T 0 t

-- ---- reading
abbrev pub as_node : Got Leaf → Got Node
as_node g = then g (λ l r. got (Ends l) r)

unfoldable pub read_node : Tables → ℕ → List ℕ → Got Node
read_node T zero bits = as_node (read_leaf T zero bits)
read_node T (suc d) [] = bad 24
read_node T (suc d) (zero ∷ bits) = as_node (read_leaf T (suc d) bits)
read_node T (suc d) (suc f ∷ bits) = got Split bits

abbrev pub read_if : Tables → Bool → ℕ → List ℕ → Got Node
read_if T true d bits = read_node T d bits
read_if T false d bits = got Off bits

-- n blocks more, where those in t are read
unfoldable pub read_from : Tables → ℕ → ℕ → List Node → List ℕ → Got (List Node)
read_from T r zero t bits = got t bits
read_from T r (suc n) t bits =
    then (read_if T (reached r t (length t)) (level (length t)) bits) (λ x rest. read_from T r n (t ++ (x ∷ [])) rest)

-- the tree of a block of level d
unfoldable pub read_tree : Tables → ℕ → List ℕ → Got (List Node)
read_tree T d bits = read_from T (first d) block_count [] bits

-- ---- what a tree shows
abbrev pub node_shows : (ℕ → Leaf → List ℕ) → ℕ → Node → List ℕ
node_shows shows i Off = []
node_shows shows i Split = []
node_shows shows i (Ends l) = shows i l

-- over the predictor of a block of level d: `plan_reconstruction`
unfoldable pub tree_shown : (ℕ → Vectors) → ℕ → List ℕ → List Node → List ℕ
tree_shown vectors d predictor t =
    rebuilt (width d) (λ i. is_split (get_or t i Off)) (λ i. node_shows (shown_at vectors (width d) predictor) i (get_or t i Off)) d (first d) (replicate (area d) 0)
