use Rattle.std.proofs.Common.{◌≡◌, ◌+◌, min, get_or}
use Rattle.mv_cache.specs.Grid.{row_set}
use Rattle.macroblock_search.proofs.svq1_enc.inner.repeat_row.Given as goal

abbrev pub invariant-loop-i : goal.invariant-loop-i
invariant-loop-i l = l.out ≡ row_set l.o (λ j. get_or l.source (l.p + min (l.x + j) l.last) 0) l.i l.initial.out
