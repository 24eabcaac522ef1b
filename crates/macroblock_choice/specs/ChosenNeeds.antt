-- What choosing how a macroblock is coded asks and finds (document 01, `svq1_enc_inter.rs`).
use Rattle.std.specs.Prelude.{◌≡◌, List, [], ℕ, suc, ◌+◌, ◌*◌, ◌≤◌, ◌<◌, leb, length}
use Rattle.vectors.specs.declared.svq1_motion_predictor.Svq1Mv.{Svq1Mv}
use Rattle.mv_cache.specs.Neighbours.{Near}
use Rattle.tree.specs.Plan.{Planning}
use Rattle.tree.specs.TreeBits.{plan_tree}
use Rattle.macroblock_choice.specs.declared.svq1_enc_inter.inner.candidates.MbCandidate.{MbCandidate}
use Rattle.macroblock.specs.declared.svq1_enc_inter.MbMotion.{MbMotion}
use Rattle.macroblock.specs.declared.svq1_enc_inter.Settings.{Settings}
use Rattle.macroblock.specs.Macroblock.{Given, cols, rows, Motion, coded, half_of, vectors_of, baseline}
use Rattle.macroblock.specs.Limit.{Limit, unlimited, can_skip_rest}
use Rattle.macroblock.specs.Choice.{Task, target, plane_terms}
use Rattle.macroblock.specs.MotionForms.{motion_of, Differs}
use Rattle.macroblock.specs.MacroblockNeeds.{Accepted}
use Rattle.macroblock_choice.specs.CandidateNeeds.{choice_of, Stated, chosen_in}
use Rattle.plan.specs.PlanNeeds.{planning_in}

-- what a writer is asked, by its parameters
abbrev pub task_in : List ℕ → Settings → Limit → Task
task_in source settings limit = record { source = source; settings = settings; limit = limit }

-- with no limit
abbrev pub task_by : List ℕ → Settings → Task
task_by source settings = task_in source settings unlimited

-- more bits than any macroblock takes
abbrev pub ample_room : ℕ
ample_room = 65536

-- room for bits of macroblock k that says what the limit says
abbrev pub Allows : Limit → Given → ℕ → ℕ → ℕ → Type 0
Allows l g k spent room = (bits : ℕ) → bits ≤ ample_room → leb bits room ≡ can_skip_rest l g (suc k) (spent + bits)

-- what is lent passes, macroblock k is one of the plane's, and it is to show a block of 256 samples
pub record Placing (g : Given) (raised : List ℕ) (k : ℕ) (block : List ℕ) : Type 0 where
  pub ok : Accepted g raised
  pub number : k < rows g * cols g
  pub whole : length block ≡ 256

-- and a source of the plane's size
pub record Sourced (g : Given) (raised source : List ℕ) (k : ℕ) : Type 0 where
  pub ok : Accepted g raised
  pub number : k < rows g * cols g
  pub samples : length source ≡ g.width * g.height

-- ---- one motion
-- its plan, by the block and not by the source
abbrev pub planning_by : Given → List ℕ → Settings → ℕ → Motion → Planning
planning_by g block settings k m = planning_in (plane_terms settings.margin (half_of m)) g.book g.codebook settings.lambda 5 block (baseline g k m)

-- the vectors beside a motion are those that it stores, and one vector goes with its difference
pub record Carries (n : Near) (m : MbMotion) (vs : List Svq1Mv) : Type 0 where
  pub stored : vs ≡ vectors_of (coded (motion_of m vs) [])
  pub differs : Differs n m

-- the candidate of a motion
pub record Made (g : Given) (block : List ℕ) (settings : Settings) (k : ℕ) (n : Near) (m : Motion) (r : MbCandidate) : Type 0 where
  pub is : choice_of r ≡ coded m (plan_tree (planning_by g block settings k m))
  pub stated : Stated g block k n r

-- ---- the best of all
pub record ChosenFor (g : Given) (block : List ℕ) (settings : Settings) (room k : ℕ) (n : Near) (r : MbCandidate) : Type 0 where
  pub stated : Stated g block k n r
  pub is : (t : Task) → block ≡ target g t k → settings ≡ t.settings → choice_of r ≡ chosen_in g t k n room

pub record ChosenBy (g : Given) (t : Task) (room k : ℕ) (n : Near) (r : MbCandidate) : Type 0 where
  pub stated : Stated g (target g t k) k n r
  pub is : choice_of r ≡ chosen_in g t k n room
