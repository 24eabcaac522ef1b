-- The candidates of the code as the definitions' choices, what they state, and which of two is kept (document 01, `svq1_enc_inter.rs`).
use Rattle.std.specs.Prelude.{◌≡◌, Bool, true, false, ◌&&◌, ◌||◌, List, map, ℕ, ◌+◌, eqb, ltb, leb, length, replicate}
use Rattle.leaf.specs.Leaf.{sse}
use Rattle.vectors.specs.declared.svq1_motion_predictor.Svq1Mv.{Svq1Mv}
use Rattle.vectors.specs.Vectors.{zero_mv}
use Rattle.mv_cache.specs.Neighbours.{Near}
use Rattle.tree.specs.declared.svq1_enc_tree.Block.{Block}
use Rattle.tree.specs.NodeForms.{tree_of}
use Rattle.costs.specs.Cost.{cost_of}
use Rattle.tree.specs.TreeBits.{plan_tree}
use Rattle.macroblock_choice.specs.declared.svq1_enc_inter.inner.candidates.MbCandidate.{MbCandidate}
use Rattle.macroblock.specs.declared.svq1_enc_inter.Settings.{Settings}
use Rattle.macroblock.specs.declared.svq1_enc_inter.MbMotion.{MbMotion}
use Rattle.macroblock.specs.declared.svq1_enc_inter.MbMotion.TheVariants.{None}
use Rattle.macroblock.specs.declared.svq1_enc_inter.Svq1MbMode.{Svq1MbMode}
use Rattle.macroblock.specs.declared.svq1_enc_inter.Svq1MbMode.TheVariants as Mode
use Rattle.macroblock.specs.Macroblock.{Given, Motion, Choice, skipped, coded, mode_of, motion_mode, vectors_of, shown, motion_bits, mode_bits, choice_bits}
use Rattle.bits.specs.Basics.{passing}
use Rattle.macroblock.specs.Choice.{Task, target, planning_for, motions_tried, weight_of, best_of}
use Rattle.macroblock.specs.MotionForms.{motion_of, Differs}
use Rattle.macroblock.specs.MacroblockNeeds.{by_book}
use Rattle.macroblock.specs.LayingNeeds.{choice_by}

-- SKIP, or not
abbrev pub skips : Svq1MbMode → Bool
skips Mode.Inter = false
skips Mode.Inter4Mv = false
skips Mode.Intra = false
skips Mode.Skip = true

-- what a candidate is: SKIP has neither motion nor tree
abbrev pub choice_of : MbCandidate → Choice
choice_of c = choice_by (skips c.mode) (motion_of c.motion c.vectors) (tree_of c.blocks)

-- it states its mode, the vectors to store, one vector's difference, all its bits, and the squared distance of what it shows from the block that macroblock k is to show
pub record Stated (g : Given) (block : List ℕ) (k : ℕ) (n : Near) (c : MbCandidate) : Type 0 where
  pub mode : c.mode ≡ mode_of (choice_of c)
  pub vectors : c.vectors ≡ vectors_of (choice_of c)
  pub differs : Differs n c.motion
  pub bits : c.bits ≡ length (choice_bits g n (choice_of c))
  pub error : c.error ≡ sse block (shown g k (choice_of c))

-- SKIP with these bits and this error
pub record Skipping (bits error : ℕ) (r : MbCandidate) : Type 0 where
  pub mode : r.mode ≡ Mode.Skip
  pub motion_is : r.motion ≡ None
  pub vectors : r.vectors ≡ replicate 4 zero_mv
  pub bits_are : r.bits ≡ bits
  pub error_is : r.error ≡ error

-- a motion's candidate with this tree, and bits and an error of it
pub record CandidateOf (book : List ℕ) (n : Near) (motion : MbMotion) (vectors : List Svq1Mv) (blocks : List Block) (bits error : ℕ) (r : MbCandidate) : Type 0 where
  pub mode : r.mode ≡ motion_mode (motion_of motion vectors)
  pub motion_is : r.motion ≡ motion
  pub vectors_are : r.vectors ≡ vectors
  pub blocks_are : r.blocks ≡ blocks
  pub bits_are : r.bits ≡ length (mode_bits (by_book book) (motion_mode (motion_of motion vectors))) + (length (motion_bits (by_book book) n (motion_of motion vectors)) + bits)
  pub error_is : r.error ≡ error

-- d is kept and not c, by what they state: less cost, or the same with fewer bits
unfoldable pub preferred : ℕ → MbCandidate → MbCandidate → Bool
preferred lambda d c =
    ltb (cost_of lambda d.bits d.error) (cost_of lambda c.bits c.error)
    || (eqb (cost_of lambda d.bits d.error) (cost_of lambda c.bits c.error) && ltb d.bits c.bits)

-- ---- the best of several
-- a motion with its plan
abbrev pub coded_for : Given → Task → ℕ → Motion → Choice
coded_for g t k m = coded m (plan_tree (planning_for g t k m))

-- at most so many bits
abbrev pub in_room : Given → Task → ℕ → Near → ℕ → Choice → Bool
in_room g t k n room c = leb (weight_of g t k n c).bits room

-- r is the best of the candidate c and of the motions ms that have room, for every task that asks for this block under these settings
pub record Tried (g : Given) (block : List ℕ) (settings : Settings) (room k : ℕ) (n : Near) (ms : List Motion) (c r : MbCandidate) : Type 0 where
  pub stated : Stated g block k n r
  pub is : (t : Task) → block ≡ target g t k → settings ≡ t.settings → choice_of r ≡ best_of g t k n (choice_of c) (passing (in_room g t k n room) (map (coded_for g t k) ms))

-- the best of SKIP and of all others that have room
unfoldable pub chosen_in : Given → Task → ℕ → Near → ℕ → Choice
chosen_in g t k n room = best_of g t k n skipped (passing (in_room g t k n room) (map (coded_for g t k) (motions_tried g t k n)))
