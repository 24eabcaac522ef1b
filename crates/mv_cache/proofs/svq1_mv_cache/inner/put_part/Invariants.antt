use Rattle.std.proofs.Common.{◌≡◌, ◌*◌}
use Rattle.mv_cache.specs.PutLaws.{put_to}
use Rattle.mv_cache.proofs.svq1_mv_cache.inner.put_part.Given as goal

abbrev pub invariant-loop-i : goal.invariant-loop-i
invariant-loop-i l = l.out ≡ put_to l.side l.cols l.k l.v (l.side * l.i) l.initial.out
