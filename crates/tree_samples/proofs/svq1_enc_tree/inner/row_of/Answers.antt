-- The table follows its rule (`row_at`). Assumes nothing.
use native.Mathlib.Omega.{arith}
use Prim.Native.Nat.{◌≤◌}
use lib.ListN.{get_or}
use Rattle.tree_samples.specs.PlaceLaws.{row_table, row_at}
use Rattle.tree_samples.proofs.svq1_enc_tree.inner.row_of.Goals as goal

pub overflow_cast-result : goal.overflow_cast-result
overflow_cast-result c = let t = row_at c.args.i c.requires in let s : get_or row_table c.args.i 0 ≤ 15 = omega arith in omega arith

pub returns : goal.returns
returns c = let t = row_at c.args.i c.requires in (t.0, omega arith)
