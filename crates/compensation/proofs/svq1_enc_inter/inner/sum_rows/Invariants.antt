use mathlib.Core.Path.{◌≡◌}
use Prim.Native.Nat.{◌-◌, ◌*◌, ◌≤◌}
use Rattle.compensation.specs.Error.{sum_rows}
use Rattle.compensation.specs.RowForms.{best_or_none, row_at}
use Rattle.compensation.proofs.svq1_enc_inter.inner.sum_rows.Given as goal

abbrev pub invariant-loop-i : goal.invariant-loop-i
invariant-loop-i l = (sum_rows (row_at l.t (record { samples = l.reference; stride = l.stride; rows = l.rows }) l.n l.ox l.oy l.x0 l.y0) (best_or_none l.best) (l.n - l.i) l.i l.sum ≡ sum_rows (row_at l.t (record { samples = l.reference; stride = l.stride; rows = l.rows }) l.n l.ox l.oy l.x0 l.y0) (best_or_none l.best) l.n 0 0) × (l.sum ≤ 4080 * l.i)
