-- Reading back the tree that a choice at each block makes, by its bits.
-- Assumes nothing.
use Rattle.std.specs.Prelude.{◌≡◌, Bool, true, false, get_or}
use Rattle.std.proofs.Math.Path.{refl}
use Rattle.std.proofs.Common.{◌∙◌, arith, le_refl}
use mathlib.Core.List.{List, [], ◌∷◌, ◌++◌, append_assoc, append-nil}
use Prim.Native.Nat.{ℕ, suc, ◌≤◌, ◌<◌}
use Rattle.std.proofs.Math.ListN.{length, length-append}
use Rattle.std.proofs.Math.Seq.{get_or-append_seam, append_snoc}
use Rattle.bits.specs.Basics.{pick}
use Rattle.code_tables.specs.Codes.{got}
use Rattle.book.specs.Book.{Tables}
use Rattle.book.specs.BookLaws.{GoodTables}
use Rattle.tree.specs.Blocks.{block_count, level, first}
use Rattle.tree.specs.TreeBits.{Node, Off, reached, grow, node_bits, emit, tree_bits, read_if, read_from, read_tree}
use Rattle.tree.specs.TreeLaws.{TreeStands, read_node_lem, reached-append, length_grow, grown}

no_bits : (T : Tables) (d : ℕ) → node_bits T d Off ≡ []
unfolding node_bits
no_bits T d = refl

-- the tree that a choice at each block makes, with block r for its root
module _ (r : ℕ) where
  module _ (T : Tables) (g : GoodTables T) where
    -- a node fits its place: one that is reached may stand there, any other is off
    abbrev Fit : ℕ → Bool → Node → Type 0
    Fit d true x = TreeStands T d x
    Fit d false x = x ≡ Off

    abbrev Fits : List Node → List Node → Type 0
    Fits t [] = Unit
    Fits t (x ∷ u) = Fit (level (length t)) (reached r t (length t)) x × Fits (t ++ (x ∷ [])) u

    one : (d : ℕ) (l : Bool) (x : Node) (rest : List ℕ) → Fit d l x → read_if T l d (node_bits T d x ++ rest) ≡ got x rest
    one d true x rest h = read_node_lem T g d x rest h
    one d false x rest h = rw (h, no_bits T d)

    round_trip : (u t : List Node) (rest : List ℕ) → Fits t u → read_from T r (length u) t (emit T (length t) u ++ rest) ≡ got (t ++ u) rest
    unfolding read_from emit
    round_trip [] t rest h = rw append-nil
    round_trip (x ∷ u) t rest h =
        let more : length (t ++ (x ∷ [])) ≡ suc (length t) = simp length-append (omega arith) in
        let next = rw more at (round_trip u (t ++ (x ∷ [])) rest h.1) in
        rw append_assoc (rw (one (level (length t)) (reached r t (length t)) x (emit T (suc (length t)) u ++ rest) h.0, read_from) (next ∙ rw append_assoc))

    fits_at : (t u : List Node)
        → ((i : ℕ) → length t ≤ i → i < length (t ++ u) → Fit (level i) (reached r (t ++ u) i) (get_or (t ++ u) i Off)) → Fits t u
    fits_at t [] h = tt
    fits_at t (x ∷ u) h = (
      rw (reached-append r t (x ∷ u) (length t) (le_refl _), get_or-append_seam t x u Off) at (h (length t) (le_refl _) (simp length-append (omega arith))),
      fits_at (t ++ (x ∷ [])) u (rw append_snoc (λ i a b. h i (omega (arith, simp length-append at a)) b)),
    )

    fit_pick : (l : Bool) (d : ℕ) (x : Node) → TreeStands T d x → Fit d l (pick l x Off)
    fit_pick true d x o = o
    fit_pick false d x o = refl

    -- the tree that `choose` makes is read back, whatever bits follow
    pub grown_read : (choose : ℕ → Node) → ((i : ℕ) → i < block_count → TreeStands T (level i) (choose i)) → (rest : List ℕ)
        → read_from T r block_count [] (emit T 0 (grow r choose block_count) ++ rest) ≡ got (grow r choose block_count) rest
    grown_read choose good rest =
        let t = grow r choose block_count in
        let f = fits_at [] t (λ i a b.
        let h : i < block_count = omega (arith, length_grow r choose block_count) in
        rw (grown r choose block_count i h) (fit_pick (reached r t i) (level i) (choose i) (good i h))) in
        rw (length_grow r choose block_count) at (round_trip t [] rest f)

pub tree_read : (T : Tables) (d : ℕ) (choose : ℕ → Node) → GoodTables T → ((i : ℕ) → i < block_count → TreeStands T (level i) (choose i)) → (rest : List ℕ)
    → read_tree T d (tree_bits T (grow (first d) choose block_count) ++ rest) ≡ got (grow (first d) choose block_count) rest
unfolding read_tree tree_bits
tree_read T d choose g good rest = grown_read (first d) T g choose good rest
