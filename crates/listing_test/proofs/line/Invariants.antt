-- Each turn goes behind a line.
use Prim.Native.Nat.{◌≤◌}
use lib.ListN.{length}
use Rattle.listing_test.proofs.line.Given as goal

abbrev pub invariant-loop : goal.invariant-loop
invariant-loop l = l.at ≤ length l.file
