use mathlib.Core.Path.{◌≡◌}
use Prim.Native.Nat.{◌*◌, ◌≤◌}
use Rattle.compensation.specs.RowForms.{against_four}
use Rattle.compensation.proofs.svq1_enc_inter.inner.sum_four.Given as goal

abbrev pub invariant-loop-i : goal.invariant-loop-i
invariant-loop-i l = (l.sum ≡ against_four l.t l.a l.b l.c l.d l.i) × (l.sum ≤ 255 * l.i)
