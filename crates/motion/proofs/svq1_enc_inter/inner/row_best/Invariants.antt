use mathlib.Core.Path.{◌≡◌}
use Rattle.motion.specs.Search.{row_to}
use Rattle.motion.specs.CandidateForms.{lowered, spot_search, best_so_far, BestHeld}
use Rattle.motion.proofs.svq1_enc_inter.inner.row_best.Given as goal

abbrev pub invariant-loop-k : goal.invariant-loop-k
invariant-loop-k l = (best_so_far l.best ≡ row_to (spot_search l.target l.reference l.p) (lowered l.uy) (best_so_far l.initial.best) l.k) × BestHeld l.best
