-- The calls that the cards of planes and searches make, by definition (document 01, "Bench cards").
use Rattle.std.specs.Prelude.{ℕ, true, List, ◌≡◌, replicate}
use Rattle.bits.specs.Bits.{bits_of}
use Rattle.vectors.specs.declared.svq1_motion_predictor.Svq1Mv.{Svq1Mv}
use Rattle.motion.specs.Search.{Search}
use Rattle.macroblock.specs.Macroblock.{Given}
use Rattle.macroblock.specs.Choice.{Task}
use Rattle.macroblock.specs.Slices.{Slices, slices_by}
use Rattle.macroblock.specs.MacroblockNeeds.{given_by}
use Rattle.macroblock_choice.specs.ChosenNeeds.{task_by}
use Rattle.plane.specs.Calls.{PlaneAnswer, write_answer, write_out, read_plane_answer, read_slices}

-- 16×16, source 100, reference 0, radius 8, four vectors; the vector slices 0 before
unfoldable pub small_given : List ℕ → List ℕ → Given
small_given book codebook = given_by (record { width = 16; height = 16; stride = 16; rows = 16 }) (replicate 256 0) book codebook

unfoldable pub small_task : ℕ → Task
small_task lambda = task_by (replicate 256 100) (record { lambda = lambda; radius = 8; four = true; margin = 0 })

abbrev pub small_slices : List ℕ → Slices
small_slices recon = slices_by recon (replicate 4 0) (replicate 4 0)

unfoldable pub fresh_slices : Slices
fresh_slices = small_slices (replicate 256 0)

-- the result slices of a plane of at most 65 macroblocks, 0 before but for the reconstruction
unfoldable pub wide_slices : List ℕ → Slices
wide_slices recon = slices_by recon (replicate 260 0) (replicate 260 0)

-- a search of radius 8 for a block of 16×16 in a flat plane of 32×32
unfoldable pub card_search : ℕ → ℕ → Svq1Mv → Search
card_search x y p = record {
  reference = record { samples = replicate 1024 100; stride = 32; rows = 32 };
  width = 32;
  height = 32;
  target = replicate 256 100;
  side = 16;
  x = x;
  y = y;
  predictor = p;
  radius = 8;
}

-- what the writer answers and the bits that it leaves; what the reader answers and the samples that it leaves
pub record CardWrote (g : Given) (t : Task) (out : List ℕ) (start : ℕ) (s : Slices) (r : PlaneAnswer) (out' : List ℕ) : Type 0 where
  pub answer : r ≡ write_answer g t out start s
  pub left : bits_of out' ≡ write_out g t out start s

pub record ReadOff (g : Given) (bytes : List ℕ) (s : Slices) (r : PlaneAnswer) (recon' : List ℕ) : Type 0 where
  pub answer : r ≡ read_plane_answer g bytes 0 s
  pub left : recon' ≡ (read_slices g bytes 0 s).recon
