-- A block of a tree, field by field (document 01, `svq1_enc_tree.rs`).
use Rattle.std.specs.Prelude.{ℕ, ℤ, pos, length, replicate}
use Rattle.leaf.specs.Leaf.{Leaf, skip, coded}
use Rattle.leaf.specs.LentNeeds.{six_of}
use Rattle.tree.specs.TreeBits.{Node, Off, Split, Ends}
use Rattle.call_entries.specs.declared.inner.NodePart.{NodePart}

-- 2 for skip, 3 for a mean with its stages
abbrev pub kind_of : Leaf → ℕ
kind_of skip = 2
kind_of (coded m js) = 3

-- the mean, 0 for skip
abbrev pub leaf_mean : Leaf → ℤ
leaf_mean skip = pos 0
leaf_mean (coded m js) = m

-- how many stages
abbrev pub count_of : Leaf → ℕ
count_of skip = 0
count_of (coded m js) = length js

-- a leaf
abbrev pub leaf_node : Leaf → NodePart
leaf_node l = record { mean = leaf_mean l; kind = kind_of l; count = count_of l; stages = six_of l }

-- a block that is no leaf: its kind, everything else 0
abbrev pub bare_node : ℕ → NodePart
bare_node k = record { mean = pos 0; kind = k; count = 0; stages = replicate 6 0 }

-- 0 for a block that the tree does not reach, 1 for a split
abbrev pub node_part : Node → NodePart
node_part Off = bare_node 0
node_part Split = bare_node 1
node_part (Ends l) = leaf_node l
