-- Document 01's emission of a tree: level by level, each split block's parts joining the next level's queue (document 01, `svq1_enc_tree.rs`).
use Rattle.std.specs.Prelude.{Bool, true, false, List, [], ◌∷◌, ◌++◌, ℕ, zero, suc}
use Rattle.book.specs.Book.{Tables}
use Rattle.tree.specs.Blocks.{left, right}
use Rattle.tree.specs.TreeBits.{Node, Off, Split, Ends, node_bits}

-- a block that the tree has
abbrev pub present : Node → Bool
present Off = false
present Split = true
present (Ends l) = true

-- a split block's two parts join the next level's queue
abbrev pub enqueue : Node → ℕ → List ℕ → List ℕ
enqueue Off i q = q
enqueue Split i q = left i ∷ right i ∷ q
enqueue (Ends l) i q = q

module _ (T : Tables) (b : ℕ → Node) where
  -- the bits of a queue of blocks of level d, one behind the other, and the queue of the next level
  unfoldable pub row_bits : ℕ → List ℕ → List ℕ
  row_bits d [] = []
  row_bits d (i ∷ q) = node_bits T d (b i) ++ row_bits d q

  unfoldable pub next : List ℕ → List ℕ
  next [] = []
  next (i ∷ q) = enqueue (b i) i (next q)

  -- DOCUMENT 01'S EMISSION: the queue of level d, then that of the level below
  unfoldable pub queue_bits : ℕ → List ℕ → List ℕ
  queue_bits zero q = row_bits zero q
  queue_bits (suc d) q = row_bits (suc d) q ++ queue_bits d (next q)
