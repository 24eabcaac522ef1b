use mathlib.Core.Path.{◌≡◌}
use Rattle.motion.specs.Search.{around_to}
use Rattle.motion.specs.CandidateForms.{lowered_mv, spot_search, best_so_far, BestHeld}
use Rattle.motion.proofs.svq1_enc_inter.inner.near_best.Given as goal

abbrev pub invariant-loop-k : goal.invariant-loop-k
invariant-loop-k l = (best_so_far l.best ≡ around_to (spot_search l.target l.reference l.p) (lowered_mv l.c.ux l.c.uy) (best_so_far l.c) l.k) × BestHeld l.best
