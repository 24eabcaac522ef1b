-- A distance of two samples, times itself: at most 255 squared. Assumes nothing.
use native.Mathlib.Omega.{arith}
use Prim.Native.Nat.{◌≤◌, ◌*◌}
use Rattle.leaf_samples.specs.RaisedLaws.{square_le}
use Rattle.leaf.specs.LeafForms.{sqd}
use Rattle.leaf_samples.proofs.svq1_enc_leaf.inner.squared.Goals as goal
use Rattle.leaf_samples.proofs.svq1_enc_leaf.inner.squared.Goals.{After-distance-d}

small : (c : After-distance-d) → c.distance-d.result * c.distance-d.result ≤ 65025
small c =
    let h : c.distance-d.result ≤ 255 = omega arith in
    square_le h

pub overflow_mul-result : goal.overflow_mul-result
overflow_mul-result c = omega (arith, small c)

pub returns : goal.returns
unfolding sqd
returns c = (rw c.distance-d.ensures, small c)
