use mathlib.Core.Path.{◌≡◌}
use Prim.Native.Nat.{◌-◌}
use lib.ListN.{length}
use Rattle.tree_samples.specs.RowForms.{Moves, moved}
use Rattle.tree_samples.proofs.svq1_enc_tree.inner.move_rows.Given as goal

abbrev pub invariant-loop-row : goal.invariant-loop-row
invariant-loop-row l =
    Moves l.stride l.step (l.h - l._row) l.w l.q l.p (length l.out) (length l.m) × (length l.out ≡ length l.initial.out) × (moved l.stride l.step (l.h - l._row) l.w l.q l.p l.m l.out ≡ moved l.stride l.step l.h l.w l.to l.from l.m l.initial.out)
