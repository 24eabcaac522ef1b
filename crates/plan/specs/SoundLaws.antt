-- The leaves of a plan can be written and shown.
-- Assumes nothing.
use Rattle.std.specs.Prelude.{◌≡◌, Bool, true, false, List, get_or}
use Prim.Native.Nat.{ℕ, ◌<◌}
use Rattle.std.proofs.Common.{arith}
use Rattle.std.proofs.Math.Decide.{dec_lt}
use Rattle.std.proofs.Math.ListN.{get_or-eq_default}
use Rattle.bits.specs.Basics.{pick}
use Rattle.tree.specs.Blocks.{block_count, level}
use Rattle.tree.specs.Plan.{Planning, root, leaf_at, plan_splits}
use Rattle.plan.specs.PlanClaimLaws.{Planned, allowed}
use Rattle.tree_samples.specs.ShownLaws.{allowed_sound}
use Rattle.tree.specs.TreeBits.{Node, Off, Split, Ends, reached, grow, plan_tree}
use Rattle.tree.specs.TreeLaws.{length_grow, grown}
use Rattle.tree.specs.WalkNeeds.{SoundNode, SoundTree}

module _ (g : Planning) (p : Planned g) where
  choice_sound : (i : ℕ) (f : Bool) → SoundNode g.tables.half (level i) (pick f Split (Ends (leaf_at g i)))
  choice_sound i true = tt
  choice_sound i false = allowed_sound g.tables (level i) (leaf_at g i) (allowed g p i)

  node_sound : (i : ℕ) (r : Bool) → SoundNode g.tables.half (level i) (pick r (pick (plan_splits g i) Split (Ends (leaf_at g i))) Off)
  node_sound i true = choice_sound i (plan_splits g i)
  node_sound i false = tt

  pub plan_sound : SoundTree g.tables.half (plan_tree g)
  unfolding plan_tree
  plan_sound i = go (dec_lt i block_count)
    where
      choose : ℕ → Node
      choose j = pick (plan_splits g j) Split (Ends (leaf_at g j))

      tree : List Node
      tree = grow (root g) choose block_count

      go : Dec (i < block_count) → SoundNode g.tables.half (level i) (get_or tree i Off)
      go (yes l) = rw (grown (root g) choose block_count i l) (node_sound i (reached (root g) tree i))
      go (no l) =
          let e : get_or tree i Off ≡ Off = get_or-eq_default tree Off (rw (length_grow (root g) choose block_count) (omega arith)) in
          rw e tt
