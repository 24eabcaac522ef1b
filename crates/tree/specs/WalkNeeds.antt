-- What the functions of `walk` ask, write and find (document 01, `svq1_enc_tree.rs`, "Reading", over the definitions of TreeBits).
use Rattle.std.specs.Prelude.{◌≡◌, List, [], ◌∷◌, ℕ, zero, suc, ◌*◌, ◌≤◌, length, get_or, drop, Result, Ok, Err, IfOk}
use Rattle.bits.specs.Bits.{bits_of}
use Rattle.bits.specs.BitNeeds.{Fits}
use Rattle.bits.specs.Refusals.{number_of}
use Rattle.bits.specs.declared.refusal.Refusal.{Refusal}
use Rattle.code_tables.specs.Codes.{Got, got, bad}
use Rattle.book.specs.Book.{Tables, tables_of, book_refusal}
use Rattle.book.specs.declared.svq1_vlc.Svq1Half.{Svq1Half}
use Rattle.leaf.specs.Leaf.{Leaf, skip, coded}
use Rattle.leaf.specs.LeafBits.{leaf_bits, read_leaf}
use Rattle.leaf.specs.LeafBitsLaws.{Coded}
use Rattle.tree.specs.Blocks.{level}
use Rattle.tree.specs.TreeBits.{Node, Off, Split, Ends, as_node, node_bits, tree_bits, read_node, read_tree}
use Rattle.tree.specs.NodeForms.{node_of, tree_of}
use Rattle.tree.specs.declared.svq1_enc_tree.inner.walk.ReadNode.{ReadNode}
use Rattle.tree.specs.declared.svq1_enc_tree.inner.walk.ReadTree.{ReadTree}

-- ---- writing
-- the flag before a leaf: 0, and none at L0
unfoldable pub leaf_flag : ℕ → List ℕ
leaf_flag zero = []
leaf_flag (suc d) = 0 ∷ []

-- a leaf that can be written and shown at level d: skip, or a mean of its half's range with stages that the level has
abbrev pub of_half : Svq1Half → Tables
of_half h = record { half = h; stage = λ d. []; mean = [] }

abbrev pub Sound : Svq1Half → ℕ → Leaf → Type 0
Sound h d skip = Unit
Sound h d (coded m js) = Coded (of_half h) d m js

abbrev pub SoundNode : Svq1Half → ℕ → Node → Type 0
SoundNode h d Off = Unit
SoundNode h d Split = Unit
SoundNode h d (Ends l) = Sound h d l

-- every leaf of a tree is such a leaf
abbrev pub SoundTree : Svq1Half → List Node → Type 0
SoundTree h t = (i : ℕ) → SoundNode h (level i) (get_or t i Off)

-- a book that passes, a leaf that can be written, and room for its bits
pub record LeafRoom (book : List ℕ) (half : Svq1Half) (d : ℕ) (l : Leaf) (bytes at : ℕ) : Type 0 where
  pub passes : book_refusal book ≡ 0
  pub deep : d ≤ 5
  pub sound : Sound half d l
  pub room : Fits bytes at (length (leaf_bits (tables_of book half) d l))

-- the same of a block, and of a tree
pub record NodeRoom (book : List ℕ) (half : Svq1Half) (d : ℕ) (x : Node) (bytes at : ℕ) : Type 0 where
  pub passes : book_refusal book ≡ 0
  pub deep : d ≤ 5
  pub sound : SoundNode half d x
  pub room : Fits bytes at (length (node_bits (tables_of book half) d x))

pub record TreeRoom (book : List ℕ) (half : Svq1Half) (t : List Node) (bytes at : ℕ) : Type 0 where
  pub passes : book_refusal book ≡ 0
  pub sound : SoundTree half t
  pub room : Fits bytes at (length (tree_bits (tables_of book half) t))

-- ---- reading
-- a book that passes, a level, and a bit string from a bit on
pub record Reads (book : List ℕ) (d bytes at : ℕ) : Type 0 where
  pub passes : book_refusal book ≡ 0
  pub deep : d ≤ 5
  pub from : Fits bytes at 0

-- what an answer means: a refusal's number, or what was read and the bits left
abbrev pub node_got : List ℕ → Result ReadNode Refusal → Got Node
node_got bits (Ok r) = got (node_of r.block) (drop r.next bits)
node_got bits (Err e) = bad (number_of e)

abbrev pub tree_got : List ℕ → Result ReadTree Refusal → Got (List Node)
tree_got bits (Ok r) = got (tree_of r.blocks) (drop r.next bits)
tree_got bits (Err e) = bad (number_of e)

-- what stands at bit `at` of the bytes s, as a leaf, as a reached block and as a tree
pub record LeafHere (T : Tables) (d : ℕ) (s : List ℕ) (at : ℕ) (r : Result ReadNode Refusal) : Type 0 where
  pub is : node_got (bits_of s) r ≡ as_node (read_leaf T d (drop at (bits_of s)))
  pub within : IfOk r (λ x. x.next ≤ 8 * length s)

pub record NodeHere (T : Tables) (d : ℕ) (s : List ℕ) (at : ℕ) (r : Result ReadNode Refusal) : Type 0 where
  pub is : node_got (bits_of s) r ≡ read_node T d (drop at (bits_of s))
  pub within : IfOk r (λ x. x.next ≤ 8 * length s)

pub record TreeHere (T : Tables) (d : ℕ) (s : List ℕ) (at : ℕ) (r : Result ReadTree Refusal) : Type 0 where
  pub is : tree_got (bits_of s) r ≡ read_tree T d (drop at (bits_of s))
  pub within : IfOk r (λ x. x.next ≤ 8 * length s)
