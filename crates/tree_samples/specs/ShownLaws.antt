-- A tree rebuilt from the raised codebook shows what it shows by the codebook itself.
-- Assumes nothing.
use Rattle.std.specs.Prelude.{◌≡◌, Bool, List, ℕ, zero, suc, length, get_or, replicate}
use Rattle.std.proofs.Math.Path.{refl}
use Rattle.std.proofs.Common.{ap, ◌∙◌, arith}
use Rattle.bits.specs.Basics.{Bytes}
use Rattle.book.specs.Book.{Tables}
use Rattle.book.specs.Level.{width, area}
use Rattle.book.specs.declared.svq1_vlc.Svq1Half.{Svq1Half}
use Rattle.leaf.specs.AgreeLaws.{page_agrees, shown-same}
use Rattle.codebook.specs.Codebook.{vector_at}
use Rattle.leaf.specs.Leaf.{Leaf, skip, coded, leaf_shown, cap_at}
use Rattle.leaf.specs.LeafBitsLaws.{AllowedLeaf}
use Rattle.codebook.specs.CodebookForms.{raised_codebook}
use Rattle.tree.specs.Blocks.{left, right, level, first, block_of, rebuilt}
use Rattle.tree.specs.Plan.{shown_at}
use Rattle.tree.specs.TreeBits.{Node, Off, Split, Ends, is_split, node_shows, tree_shown}
use Rattle.tree.specs.WalkNeeds.{Sound, SoundNode, SoundTree}
use Rattle.tree_samples.specs.RebuildNeeds.{raised_vectors, node_at, rebuilt_by}
use Rattle.tree_samples.specs.RebuildNeedsLaws.{open_stages}

-- a leaf that may stand in a tree of the half's can be written and shown
pub allowed_sound : (T : Tables) (d : ℕ) (l : Leaf) → AllowedLeaf T d l → Sound T.half d l
allowed_sound T d skip a = tt
allowed_sound T d (coded m js) a = record { place = a.place; back = a.back; few = a.few; bare = a.bare; small = a.small }

-- what is rebuilt depends on what each block shows, and on nothing else of it
rebuilt-same : (s : ℕ) (split : ℕ → Bool) (f g : ℕ → List ℕ) → ((i : ℕ) → f i ≡ g i) → (d i : ℕ) (m : List ℕ) → rebuilt s split f d i m ≡ rebuilt s split g d i m
unfolding rebuilt
rebuilt-same s split f g e zero i m = rw (e i)
rebuilt-same s split f g e (suc d) i m =
    let parts : rebuilt s split f d (right i) (rebuilt s split f d (left i) m) ≡ rebuilt s split g d (right i) (rebuilt s split g d (left i) m) =
    rebuilt-same s split f g e d (right i) (rebuilt s split f d (left i) m) ∙ ap (rebuilt s split g d (right i)) (rebuilt-same s split f g e d (left i) m) in
    rw (parts, e i)

module _ (codebook : List ℕ) (bytes : Bytes codebook) (h : Svq1Half) (s : ℕ) (p : List ℕ) where
  node_same : (i : ℕ) (x : Node) → SoundNode h (level i) x → node_at (raised_codebook codebook) h s p i x ≡ node_shows (shown_at (vector_at codebook h) s p) i x
  unfolding shown_at leaf_shown
  node_same i Off a = refl
  node_same i Split a = refl
  node_same i (Ends skip) a = refl
  node_same i (Ends (coded m js)) a =
      let d = level i in
      shown-same (cap_at d 6) (raised_vectors (raised_codebook codebook) h d) (vector_at codebook h d) (page_agrees codebook bytes h d 6 (omega arith)) (block_of s d i p) m js
      (open_stages d (length js) a.few a.bare) a.small

  -- THE RECONSTRUCTION by the copy is the one by the codebook
  pub rebuilt_codebook : (t : List Node) → SoundTree h t → (d i : ℕ) (m : List ℕ)
      → rebuilt_by (raised_codebook codebook) h s p t d i m
      ≡ rebuilt s (λ k. is_split (get_or t k Off)) (λ k. node_shows (shown_at (vector_at codebook h) s p) k (get_or t k Off)) d i m
  rebuilt_codebook t sound d i m =
      rebuilt-same s (λ k. is_split (get_or t k Off)) (λ k. node_at (raised_codebook codebook) h s p k (get_or t k Off)) (λ k. node_shows (shown_at (vector_at codebook h) s p) k (get_or t k Off))
      (λ k. node_same k (get_or t k Off) (sound k)) d i m

-- so a tree rebuilt into zeros, at its own root and with its own width for the stride, is what the tree shows
pub rebuilt-shown : (codebook : List ℕ) → Bytes codebook → (h : Svq1Half) (d : ℕ) (p : List ℕ) (t : List Node) → SoundTree h t
    → rebuilt_by (raised_codebook codebook) h (width d) p t d (first d) (replicate (area d) 0) ≡ tree_shown (vector_at codebook h) d p t
unfolding tree_shown
rebuilt-shown codebook bytes h d p t sound = rebuilt_codebook codebook bytes h (width d) p t sound d (first d) (replicate (area d) 0)
