use mathlib.Core.Path.{◌≡◌}
use Prim.Native.Nat.{◌≤◌, ◌*◌, ◌+◌}
use lib.ListN.{length, drop}
use Rattle.leaf.specs.LeafForms.{sample_sum}
use Rattle.leaf_search.proofs.svq1_enc_leaf.inner.sum_of.Given as goal

abbrev pub invariant-loop-i : goal.invariant-loop-i
invariant-loop-i l = (l.i ≤ length l.t) × (l.sum ≤ 255 * l.i) × (l.sum + sample_sum (drop l.i l.t) ≡ sample_sum l.t)
