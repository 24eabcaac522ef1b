-- The searches for a macroblock by its samples, and the motions that they leave to try (document 01, `svq1_enc_inter.rs`).
use Rattle.std.specs.Prelude.{◌≡◌, Option, Some, None, IfSome, option_map, option_and_then, List, [], ◌∷◌, ℕ, ◌+◌, ◌*◌, ◌/◌, ◌%◌, ◌≤◌, ◌<◌, length}
use Rattle.bits.specs.Basics.{All}
use Rattle.vectors.specs.declared.svq1_motion_predictor.Svq1Mv.{Svq1Mv}
use Rattle.vectors.specs.Vectors.{zero_mv}
use Rattle.mv_cache.specs.Neighbours.{Near}
use Rattle.motion.specs.Search.{Search, searched}
use Rattle.canvas.specs.Canvas.{largest_side, blocks_along}
use Rattle.canvas.specs.CanvasLaws.{Fitting}
use Rattle.tree.specs.Blocks.{gather}
use Rattle.macroblock_search.specs.declared.svq1_enc_inter.inner.motions.TriedMotion.{TriedMotion}
use Rattle.macroblock_search.specs.declared.svq1_enc_inter.inner.searches.VectorPair.{VectorPair}
use Rattle.macroblock.specs.declared.svq1_enc_inter.MbMotion.TheVariants as motion
use Rattle.canvas.specs.declared.svq1_plane.Svq1PlaneCanvas.{Svq1PlaneCanvas}
use Rattle.macroblock.specs.Macroblock.{Given, Motion, coded, vectors_of}
use Rattle.macroblock.specs.MacroblockLaws.{Codables}
use Rattle.macroblock.specs.Choice.{Task, target}
use Rattle.macroblock.specs.MotionForms.{motion_of, Differs}
use Rattle.macroblock.specs.MacroblockNeeds.{given_by}

-- the search for a block of this side at (x, y)
abbrev pub search_by : Svq1PlaneCanvas → List ℕ → List ℕ → ℕ → ℕ → ℕ → Svq1Mv → ℕ → Search
search_by c reference block side x y p radius = record {
  reference = record { samples = reference; stride = c.stride; rows = c.rows };
  width = c.width;
  height = c.height;
  target = block;
  side = side;
  x = x;
  y = y;
  predictor = p;
  radius = radius;
}

-- for macroblock k, which is to show these samples, and for its 8×8 block j
abbrev pub whole_by : Svq1PlaneCanvas → List ℕ → List ℕ → ℕ → Svq1Mv → ℕ → Search
whole_by c reference block k p radius = search_by c reference block 16 (16 * (k % blocks_along c.width)) (16 * (k / blocks_along c.width)) p radius

abbrev pub quarter_by : Svq1PlaneCanvas → List ℕ → List ℕ → ℕ → ℕ → Svq1Mv → ℕ → Search
quarter_by c reference block k j p radius =
    search_by c reference (gather 16 8 8 (128 * (j / 2) + 8 * (j % 2)) block) 8 (16 * (k % blocks_along c.width) + 8 * (j % 2))
    (16 * (k / blocks_along c.width) + 8 * (j / 2)) p radius

-- a macroblock of a plane whose size passes
pub record Cornered (c : Svq1PlaneCanvas) (k : ℕ) : Type 0 where
  pub width_some : 1 ≤ c.width
  pub width_most : c.width ≤ largest_side
  pub height_most : c.height ≤ largest_side
  pub number : k < blocks_along c.height * blocks_along c.width

-- and its samples, with a reference that passes
pub record Searching (c : Svq1PlaneCanvas) (reference block : List ℕ) (k : ℕ) : Type 0 where
  pub fits : Fitting c.width c.height (record { samples = reference; stride = c.stride; rows = c.rows })
  pub number : k < blocks_along c.height * blocks_along c.width
  pub whole : length block ≡ 256

-- ---- what was found
-- by a search, and by a second one that goes by what the first found
unfoldable pub pair_searched : Search → (Svq1Mv → Search) → Option VectorPair
pair_searched s u = option_and_then (λ a. option_map (λ b. record { first = a; second = b }) (searched (u a))) (searched s)

-- the motion to try, if there is one
abbrev pub motions_of : Option TriedMotion → List Motion
motions_of None = []
motions_of (Some m) = motion_of m.motion m.vectors ∷ []

abbrev pub still_motion : TriedMotion
still_motion = record { motion = motion.None; vectors = zero_mv ∷ zero_mv ∷ zero_mv ∷ zero_mv ∷ [] }

abbrev pub one_motion : Svq1Mv → Svq1Mv → TriedMotion
one_motion v d = record { motion = motion.One v d; vectors = v ∷ v ∷ v ∷ v ∷ [] }

abbrev pub four_motion : VectorPair → VectorPair → TriedMotion
four_motion p q = record { motion = motion.Four; vectors = p.first ∷ p.second ∷ q.first ∷ q.second ∷ [] }

-- r has the motions ms, whatever the book and the task, as long as the task has these samples and this radius; they are codable, the vectors are those to store, and one vector goes with its difference
pub record MotionsFound (c : Svq1PlaneCanvas) (reference block : List ℕ) (radius k : ℕ) (n : Near) (ms : Given → Task → List Motion) (r : Option TriedMotion) : Type 0 where
  pub are : (book codebook : List ℕ) (t : Task) → block ≡ target (given_by c reference book codebook) t k → radius ≡ t.settings.radius
      → motions_of r ≡ ms (given_by c reference book codebook) t
  pub codes : All (Codables n) (motions_of r)
  pub stored : IfSome r (λ m. m.vectors ≡ vectors_of (coded (motion_of m.motion m.vectors) []))
  pub differs : IfSome r (λ m. Differs n m.motion)
