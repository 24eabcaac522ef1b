-- Each turn leaves fewer bytes.
use Prim.Native.Nat.{◌≤◌}
use lib.ListN.{length}
use Rattle.listing_test.proofs.books.Given as goal

abbrev pub decreases-loop-name : goal.decreases-loop-name
decreases-loop-name g l = length l.rest
