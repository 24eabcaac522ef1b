-- The motion of the code as the definitions' motion, and the difference that it carries (document 01, `svq1_enc_inter.rs`: `MbMotion`).
use Rattle.std.specs.Prelude.{◌≡◌, List, get_or}
use Rattle.vectors.specs.declared.svq1_motion_predictor.Svq1Mv.{Svq1Mv}
use Rattle.vectors.specs.Vectors.{zero_mv, difference_mv}
use Rattle.mv_cache.specs.Neighbours.{Near, for_one}
use Rattle.macroblock.specs.Macroblock.{Motion, still, single, four}
use Rattle.macroblock.specs.declared.svq1_enc_inter.MbMotion.{MbMotion}
use Rattle.macroblock.specs.declared.svq1_enc_inter.MbMotion.TheVariants.{None, One, Four}

-- a motion and the four vectors beside it
abbrev pub motion_of : MbMotion → List Svq1Mv → Motion
motion_of None vs = still
motion_of (One v d) vs = single v
motion_of Four vs = four (get_or vs 0 zero_mv) (get_or vs 1 zero_mv) (get_or vs 2 zero_mv) (get_or vs 3 zero_mv)

-- one vector goes with its difference from its predictor
abbrev pub Differs : Near → MbMotion → Type 0
Differs n None = Unit
Differs n (One v d) = d ≡ difference_mv (for_one n) v
Differs n Four = Unit
