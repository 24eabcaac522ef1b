-- The block records of the code as the definitions' nodes (document 01, "Rust forms that need another build").
use Rattle.std.specs.Prelude.{◌≡◌, List, map, ℕ, replicate}
use Rattle.leaf.specs.LentNeeds.{Clean}
use Rattle.leaf.specs.LeafForms.{leaf_of}
use Rattle.tree.specs.declared.svq1_enc_tree.TreeNode.{TreeNode}
use Rattle.tree.specs.declared.svq1_enc_tree.TreeNode.TheVariants as node
use Rattle.tree.specs.declared.svq1_enc_tree.Block.{Block}
use Rattle.tree.specs.TreeBits.{Node, Off, Split, Ends}

-- a node and its stage indices
abbrev pub node_as : TreeNode → List ℕ → Node
node_as node.Off js = Off
node_as node.Split js = Split
node_as (node.Leaf c) js = Ends (leaf_of c js)

abbrev pub node_of : Block → Node
node_of b = node_as b.node b.stages

-- the tree of an array of block records
unfoldable pub tree_of : List Block → List Node
tree_of bs = map node_of bs

-- the record of a block that the tree does not reach
abbrev pub off_block : Block
off_block = record { node = node.Off; stages = replicate 6 0 }

-- a block's one form in memory: six zeros beside a block that is off or split, and a leaf in its own
abbrev pub CleanNode : TreeNode → List ℕ → Type 0
CleanNode node.Off js = js ≡ replicate 6 0
CleanNode node.Split js = js ≡ replicate 6 0
CleanNode (node.Leaf c) js = Clean c js

abbrev pub CleanBlock : Block → Type 0
CleanBlock b = CleanNode b.node b.stages
