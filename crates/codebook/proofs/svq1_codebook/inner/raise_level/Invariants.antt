use Prim.Native.Nat.{◌+◌, ◌*◌, ◌≤◌}
use Rattle.codebook.specs.RaiseNeeds.{RaisedTo}
use Rattle.codebook.proofs.svq1_codebook.inner.raise_level.Given as goal

abbrev pub invariant-loop-k : goal.invariant-loop-k
invariant-loop-k l = (l.k ≤ 192) × RaisedTo l.codebook (l.from + l.k * l.n) l.out
