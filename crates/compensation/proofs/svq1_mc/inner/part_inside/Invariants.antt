use Rattle.bits.specs.Basics.{values_from}
use Rattle.compensation.specs.RowForms.{cell}
use mathlib.Core.Path.{◌≡◌}
use Prim.Native.Nat.{◌+◌, ◌*◌, ◌/◌, ◌%◌}
use Rattle.mv_cache.specs.PutLaws.{put_to}
use Rattle.compensation.proofs.svq1_mc.inner.part_inside.Given as goal

abbrev pub invariant-loop-i : goal.invariant-loop-i
invariant-loop-i l = l.out ≡ put_to l.s l.cols l.q (values_from (λ j. cell (record { samples = l.reference; stride = l.stride; rows = l.rows }) l.ox l.oy ((l.y0 + j / l.s) * l.stride + l.x0 + j % l.s)) (l.s * l.s) 0) (l.s * l.i) l.initial.out
