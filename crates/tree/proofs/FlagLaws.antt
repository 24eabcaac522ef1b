-- A leaf above L0 stands behind a flag 0.
-- Assumes nothing.
use Rattle.std.specs.Prelude.{◌≡◌, ℕ, ◌+◌, ◌*◌, ◌<◌, List, length, take, drop, Result}
use Rattle.std.proofs.Common.{◌∙◌}
use Rattle.bits.specs.Bits.{bits_of, val_of}
use Rattle.bits.specs.BitsLaws.{length_bits_of}
use Rattle.bits.specs.declared.refusal.Refusal.{Refusal}
use Rattle.book.specs.Book.{Tables}
use Rattle.tree.specs.WalkNeeds.{LeafHere, NodeHere}
use Rattle.tree.specs.WalkReadLaws.{flag_leaf}
use Rattle.tree.specs.declared.svq1_enc_tree.inner.walk.ReadNode.{ReadNode}

pub leaf_behind : (T : Tables) (d : ℕ) (s : List ℕ) (at : ℕ) (g : Result ReadNode Refusal) → (d ≡ 0 → ⊥) → at < 8 * length s → val_of (take 1 (drop at (bits_of s))) ≡ 0
    → LeafHere T d s (at + 1) g → NodeHere T d s at g
leaf_behind T d s at g n h z l =
    let i : at < length (bits_of s) = rw length_bits_of h in
    record { is = l.is ∙ flag_leaf T d at (bits_of s) n i z; within = l.within }
