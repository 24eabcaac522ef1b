use Prim.Native.Nat.{◌-◌}
use Rattle.codebook.specs.RaiseNeeds.{VectorFilling}
use Rattle.codebook.proofs.svq1_codebook.inner.raise_vector.Given as goal

abbrev pub invariant-loop-b : goal.invariant-loop-b
invariant-loop-b l = VectorFilling l.codebook l.order l.n l.s l.at l.b l.out

abbrev pub decreases-loop-b : goal.decreases-loop-b
decreases-loop-b l = l.n - l.b
