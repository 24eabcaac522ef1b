use mathlib.Core.Path.{◌≡◌}
use Prim.Native.Nat.{◌*◌, ◌≤◌}
use Rattle.compensation.specs.RowForms.{against}
use Rattle.compensation.proofs.svq1_enc_inter.inner.sad.Given as goal

abbrev pub invariant-loop-i : goal.invariant-loop-i
invariant-loop-i l = (l.sum ≡ against l.t l.a l.i) × (l.sum ≤ 255 * l.i)
