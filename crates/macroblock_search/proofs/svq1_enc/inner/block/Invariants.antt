use Prim.Native.Nat.{◌*◌}
use Rattle.macroblock_search.specs.TargetForms.{target_sample, RowsFilled}
use Rattle.macroblock_search.proofs.svq1_enc.inner.block.Given as goal

abbrev pub invariant-loop-i : goal.invariant-loop-i
invariant-loop-i l = RowsFilled (target_sample l.canvas.width l.canvas.height l.source l.k) (16 * l.i) l.out
