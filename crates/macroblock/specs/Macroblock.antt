-- What a macroblock can be coded as: motions, the samples and vectors that they leave, and their bits (document 01, `svq1_enc_inter.rs`, "Reading").
use Rattle.std.specs.Prelude.{ℕ, ◌+◌, ◌*◌, ◌/◌, ◌%◌, List, [], ◌∷◌, ◌++◌, replicate, get_or, ℤ}
use Rattle.bits.specs.Basics.{values_from}
use Rattle.code_tables.specs.Codes.{codes_of, code}
use Rattle.book.specs.Book.{tables_of, mode_table, vector_table}
use Rattle.book.specs.declared.svq1_vlc.Svq1Half.{Svq1Half}
use Rattle.book.specs.declared.svq1_vlc.Svq1Half.TheVariants.{Intra, Inter}
use Rattle.codebook.specs.Codebook.{vector_at}
use Rattle.vectors.specs.declared.svq1_motion_predictor.Svq1Mv.{Svq1Mv}
use Rattle.vectors.specs.Vectors.{zero_mv, difference_mv, place_of}
use Rattle.mv_cache.specs.Neighbours.{Near, for_one, for_first, for_second, for_third, for_fourth}
use Rattle.canvas.specs.Canvas.{Canvas, blocks_along}
use Rattle.compensation.specs.Compensation.{moved_sample, moved_block}
use Rattle.mv_cache.specs.Grid.{part}
use Rattle.tree.specs.TreeBits.{Node, tree_bits, tree_shown}
use Rattle.macroblock.specs.Mode.{mode_position}
use Rattle.macroblock.specs.declared.svq1_enc_inter.Svq1MbMode.{Svq1MbMode}
use Rattle.macroblock.specs.declared.svq1_enc_inter.Svq1MbMode.TheVariants as Mode

-- what writer and reader are both given: the visible size, the reference, the book and the codebook
pub record Given : Type 0 where
  pub width : ℕ
  pub height : ℕ
  pub reference : Canvas
  pub book : List ℕ
  pub codebook : List ℕ

abbrev pub cols : Given → ℕ
cols g = blocks_along g.width

abbrev pub rows : Given → ℕ
rows g = blocks_along g.height

-- no motion (INTRA), one vector (INTER), or four, in raster order (INTER_4MV)
pub data Motion : Type 0 where
  still : Motion
  single : Svq1Mv → Motion
  four : Svq1Mv → Svq1Mv → Svq1Mv → Svq1Mv → Motion

-- SKIP, or a motion and a tree of 63 nodes
pub data Choice : Type 0 where
  skipped : Choice
  coded : Motion → List Node → Choice

-- the mode that a choice is written as
abbrev pub motion_mode : Motion → Svq1MbMode
motion_mode still = Mode.Intra
motion_mode (single v) = Mode.Inter
motion_mode (four a b c d) = Mode.Inter4Mv

abbrev pub mode_of : Choice → Svq1MbMode
mode_of skipped = Mode.Skip
mode_of (coded m t) = motion_mode m

-- INTRA trees use the intra half, the others the inter half
abbrev pub half_of : Motion → Svq1Half
half_of still = Intra
half_of (single v) = Inter
half_of (four a b c d) = Inter

-- the vectors of the four 8×8 blocks; SKIP and INTRA store zero
abbrev pub vectors_of : Choice → List Svq1Mv
vectors_of skipped = replicate 4 zero_mv
vectors_of (coded still t) = replicate 4 zero_mv
vectors_of (coded (single v) t) = replicate 4 v
vectors_of (coded (four a b c d) t) = a ∷ b ∷ c ∷ d ∷ []

-- ---- samples
-- the first column and row of macroblock k in samples
abbrev pub left_of : Given → ℕ → ℕ
left_of g k = 16 * (k % cols g)

abbrev pub top_of : Given → ℕ → ℕ
top_of g k = 16 * (k / cols g)

-- macroblock k of the reference
unfoldable pub reference_block : Given → ℕ → List ℕ
reference_block g k = part 16 (cols g) k g.reference.samples

-- of four vectors, the one for the sample at place j of a macroblock
abbrev pub vector_for : Svq1Mv → Svq1Mv → Svq1Mv → Svq1Mv → ℕ → Svq1Mv
vector_for a b c d j = get_or (a ∷ b ∷ c ∷ d ∷ []) (j / 16 / 8 * 2 + j % 16 / 8) zero_mv

-- what a tree is laid over: 0 for INTRA, else the reference moved by the vectors
unfoldable pub baseline : Given → ℕ → Motion → List ℕ
baseline g k still = replicate 256 0
baseline g k (single v) = moved_block g.reference 16 (left_of g k) (top_of g k) v
baseline g k (four a b c d) = values_from (λ j. moved_sample g.reference 16 (left_of g k) (top_of g k) (vector_for a b c d j) j) 256 0

-- the samples that macroblock k shows: the reference block for SKIP, else the tree over the baseline
unfoldable pub shown : Given → ℕ → Choice → List ℕ
shown g k skipped = reference_block g k
shown g k (coded m t) = tree_shown (vector_at g.codebook (half_of m)) 5 (baseline g k m) t

-- ---- bits
abbrev pub mode_codes : Given → List (List ℕ)
mode_codes g = codes_of (mode_table g.book)

abbrev pub vector_codes : Given → List (List ℕ)
vector_codes g = codes_of (vector_table g.book)

-- the code of a difference's component, and of both, x before y
abbrev pub component_bits : Given → ℤ → List ℕ
component_bits g d = code (vector_codes g) (place_of d)

abbrev pub difference_bits : Given → Svq1Mv → List ℕ
difference_bits g d = component_bits g d.x ++ component_bits g d.y

-- a vector against its predictor: its difference
unfoldable pub vector_bits : Given → Svq1Mv → Svq1Mv → List ℕ
vector_bits g p v = difference_bits g (difference_mv p v)

-- the vectors of a motion; those of four are predicted from the ones before them
unfoldable pub motion_bits : Given → Near → Motion → List ℕ
motion_bits g n still = []
motion_bits g n (single v) = vector_bits g (for_one n) v
motion_bits g n (four a b c d) =
    vector_bits g (for_first n) a ++ (vector_bits g (for_second n a) b ++ (vector_bits g (for_third n a b) c ++ vector_bits g (for_fourth a b c) d))

-- the code of a mode
abbrev pub mode_bits : Given → Svq1MbMode → List ℕ
mode_bits g m = code (mode_codes g) (mode_position m)

-- mode, vector differences, tree; SKIP has only its mode
unfoldable pub choice_bits : Given → Near → Choice → List ℕ
choice_bits g n skipped = mode_bits g Mode.Skip
choice_bits g n (coded m t) = mode_bits g (motion_mode m) ++ (motion_bits g n m ++ tree_bits (tables_of g.book (half_of m)) t)
