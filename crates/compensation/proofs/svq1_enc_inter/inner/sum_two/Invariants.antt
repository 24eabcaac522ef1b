use mathlib.Core.Path.{◌≡◌}
use Prim.Native.Nat.{◌*◌, ◌≤◌}
use Rattle.compensation.specs.RowForms.{against_two}
use Rattle.compensation.proofs.svq1_enc_inter.inner.sum_two.Given as goal

abbrev pub invariant-loop-i : goal.invariant-loop-i
invariant-loop-i l = (l.sum ≡ against_two l.t l.a l.b l.i) × (l.sum ≤ 255 * l.i)
