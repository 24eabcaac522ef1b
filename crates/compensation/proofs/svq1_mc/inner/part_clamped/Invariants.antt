use mathlib.Core.Path.{◌≡◌}
use Rattle.mv_cache.specs.PutLaws.{put_to}
use Rattle.compensation.specs.MovedForms.{down_mv}
use Rattle.compensation.specs.MovedFormsLaws.{part_values}
use Rattle.compensation.proofs.svq1_mc.inner.part_clamped.Given as goal

abbrev pub invariant-loop-j : goal.invariant-loop-j
invariant-loop-j l = l.out ≡ put_to l.s l.cols l.q (part_values (record { samples = l.reference; stride = l.stride; rows = l.rows }) l.x l.y (down_mv l.ux l.uy) l.s l.cols l.q) l.j l.initial.out
