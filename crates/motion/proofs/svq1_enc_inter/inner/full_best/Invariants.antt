use mathlib.Core.Path.{◌≡◌}
use Rattle.motion.specs.Search.{rows_to}
use Rattle.motion.specs.CandidateForms.{spot_search, best_so_far, BestHeld}
use Rattle.motion.proofs.svq1_enc_inter.inner.full_best.Given as goal

abbrev pub invariant-loop-k : goal.invariant-loop-k
invariant-loop-k l = (best_so_far l.best ≡ rows_to (spot_search l.target l.reference l.p) (best_so_far l.initial.best) l.k) × BestHeld l.best
