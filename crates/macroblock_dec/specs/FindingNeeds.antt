-- What reading finds at a bit: a refusal's number, or a value and the bit behind it (document 01, "Reading", refusals 10, 11, 24).
use Rattle.std.specs.Prelude.{◌≡◌, true, false, List, [], ◌∷◌, ℕ, zero, suc, ◌*◌, ◌/◌, ◌≤◌, ◌<◌, length, drop, get_or, replicate, Result, Ok, Err}
use Rattle.std.proofs.Math.Option.{Option, none, some}
use Rattle.bits.specs.Basics.{All}
use Rattle.bits.specs.Bits.{bits_of}
use Rattle.bits.specs.Refusals.{number_of}
use Rattle.bits.specs.declared.refusal.Refusal.{Refusal}
use Rattle.code_tables.specs.Codes.{codes_of, Got, got, bad, then, take_code}
use Rattle.code_tables.specs.declared.svq1_vlc.CodeFound.{CodeFound}
use Rattle.book.specs.Book.{mode_table}
use Rattle.book.specs.declared.svq1_vlc.Svq1Half.{Svq1Half}
use Rattle.vectors.specs.declared.svq1_motion_predictor.Svq1Mv.{Svq1Mv}
use Rattle.vectors.specs.Vectors.{zero_mv, difference_at}
use Rattle.vectors.specs.VectorsLaws.{Inside}
use Rattle.mv_cache.specs.Neighbours.{Near, for_one, for_first, for_second, for_third, for_fourth}
use Rattle.tree.specs.declared.svq1_enc_tree.inner.walk.ReadTree.{ReadTree}
use Rattle.tree.specs.Blocks.{block_count}
use Rattle.tree.specs.NodeForms.{tree_of, off_block}
use Rattle.tree.specs.TreeBits.{Node}
use Rattle.tree.specs.WalkNeeds.{SoundTree}
use Rattle.macroblock_dec.specs.declared.svq1_plane.inner.codes.ReadMode.{ReadMode}
use Rattle.macroblock_dec.specs.declared.svq1_plane.inner.codes.ReadPair.{ReadPair}
use Rattle.macroblock_dec.specs.declared.svq1_plane.inner.codes.ReadMv.{ReadMv}
use Rattle.macroblock_dec.specs.declared.svq1_plane.inner.reading.ReadFour.{ReadFour}
use Rattle.macroblock_dec.specs.declared.svq1_plane.inner.reading.ReadMotion.{ReadMotion}
use Rattle.macroblock_dec.specs.declared.svq1_plane.inner.reading.ReadChoice.{ReadChoice}
use Rattle.macroblock.specs.declared.svq1_enc_inter.MbMotion.{MbMotion}
use Rattle.macroblock.specs.declared.svq1_enc_inter.MbMotion.TheVariants.{None, One, Four}
use Rattle.macroblock.specs.Mode.{mode_position}
use Rattle.macroblock.specs.Macroblock.{Given, Motion, still, single, four, Choice, coded, half_of, vectors_of}
use Rattle.macroblock.specs.LayingNeeds.{choice_by}
use Rattle.macroblock.specs.MacroblockNeeds.{by_book}
use Rattle.macroblock.specs.MotionForms.{motion_of}
use Rattle.macroblock.specs.Reading.{read_difference, read_vector}

-- the value is what reading the bits of s gives, and the bit behind it lies in s
pub record Found {A : Type 0} (s : List ℕ) (g : Got A) (a : A) (next : ℕ) : Type 0 where
  pub is : got a (drop next (bits_of s)) ≡ g
  pub within : next ≤ 8 * length s

-- the answer is a value as reading gives it, of which P holds; or the refusal, by its number, that reading gives
abbrev pub Answers : {A R : Type 0} → Got A → (R → Type 0) → Result R Refusal → Type 0
Answers g P (Ok r) = P r
Answers g P (Err e) = bad (number_of e) ≡ g

-- ---- codes
-- a code of a table, and its position there
abbrev pub PositionFound : List ℕ → ℕ → List ℕ → Result CodeFound Refusal → Type 0
PositionFound s at table r =
    let g = take_code (codes_of table) (drop at (bits_of s)) in
    Answers g (λ (c : CodeFound). Found s g c.position c.next × (c.position < length table / 3)) r

-- a mode, by the position of its code
abbrev pub ModeFound : List ℕ → List ℕ → ℕ → Result ReadMode Refusal → Type 0
ModeFound s book at r =
    let g = take_code (codes_of (mode_table book)) (drop at (bits_of s)) in
    Answers g (λ (m : ReadMode). Found s g (mode_position m.mode) m.next) r

-- the difference that stands at a bit, and the one behind the mode that stands there
abbrev pub difference_here : List ℕ → List ℕ → ℕ → Got Svq1Mv
difference_here s book at = read_difference (by_book book) (drop at (bits_of s))

unfoldable pub mode_difference : List ℕ → List ℕ → ℕ → Got Svq1Mv
mode_difference s book at = then (take_code (codes_of (mode_table book)) (drop at (bits_of s))) λ k r. read_difference (by_book book) r

-- a difference, by the positions of its components
abbrev pub DifferenceFound : List ℕ → List ℕ → ℕ → Result ReadPair Refusal → Type 0
DifferenceFound s book at r =
    let g = difference_here s book at in
    Answers g (λ (p : ReadPair). Found s g (record { x = difference_at p.x; y = difference_at p.y }) p.next) r

-- a vector against its predictor, and its difference
abbrev pub VectorFound : List ℕ → List ℕ → ℕ → Svq1Mv → Result ReadMv Refusal → Type 0
VectorFound s book at predictor r =
    let g = read_vector (by_book book) predictor (drop at (bits_of s)) in
    let d = difference_here s book at in
    Answers g (λ (v : ReadMv). Found s g v.mv v.next × Inside v.mv) r × Answers d (λ (v : ReadMv). Found s d v.diff v.next) r

-- the value that was read, if there is one
abbrev pub value_of : {A : Type 0} → Got A → Option A
value_of (got a r) = some a
value_of (bad k) = none

-- ---- motions
-- four vectors, each predicted from those before it
unfoldable pub read_four : Given → Near → List ℕ → Got (List Svq1Mv)
read_four g n bits =
    then (read_vector g (for_first n) bits) λ a r1.
    then (read_vector g (for_second n a) r1) λ b r2.
    then (read_vector g (for_third n a b) r2) λ c r3.
    then (read_vector g (for_fourth a b c) r3) λ d r4. got (a ∷ b ∷ c ∷ d ∷ []) r4

pub record FourThere (s : List ℕ) (g : Got (List Svq1Mv)) (r : ReadFour) : Type 0 where
  pub found : Found s g r.vectors r.next
  pub inside : All Inside r.vectors
  pub count : length r.vectors ≡ 4

abbrev pub FourFound : List ℕ → List ℕ → Near → ℕ → Result ReadFour Refusal → Type 0
FourFound s book n at r =
    let g = read_four (by_book book) n (drop at (bits_of s)) in
    Answers g (FourThere s g) r

abbrev pub four_of : List Svq1Mv → Motion
four_of vs = four (get_or vs 0 zero_mv) (get_or vs 1 zero_mv) (get_or vs 2 zero_mv) (get_or vs 3 zero_mv)

-- the motion behind the mode at a position: 0 INTER, 1 INTER_4MV, else none
unfoldable pub read_motion : Given → Near → ℕ → List ℕ → Got Motion
read_motion g n zero bits = then (read_vector g (for_one n) bits) λ v r. got (single v) r
read_motion g n (suc zero) bits = then (read_four g n bits) λ vs r. got (four_of vs) r
read_motion g n (suc (suc k)) bits = got still bits

-- one vector goes with the difference that was read
abbrev pub DiffersBy : Got Svq1Mv → MbMotion → Type 0
DiffersBy d None = Unit
DiffersBy d (One v e) = value_of d ≡ some e
DiffersBy d Four = Unit

-- a motion, the vectors that it leaves, and its difference
pub record MotionThere (s : List ℕ) (g : Got Motion) (d : Got Svq1Mv) (r : ReadMotion) : Type 0 where
  pub found : Found s g (motion_of r.motion r.vectors) r.next
  pub vectors_are : r.vectors ≡ vectors_of (coded (motion_of r.motion r.vectors) [])
  pub inside : All Inside r.vectors
  pub differs : DiffersBy d r.motion

abbrev pub MotionFound : List ℕ → Got Motion → Got Svq1Mv → Result ReadMotion Refusal → Type 0
MotionFound s g d r = Answers g (MotionThere s g d) r

-- ---- trees
-- a tree that can be shown
pub record TreeThere (s : List ℕ) (g : Got (List Node)) (h : Svq1Half) (r : ReadTree) : Type 0 where
  pub found : Found s g (tree_of r.blocks) r.next
  pub sound : SoundTree h (tree_of r.blocks)

abbrev pub TreeFound : List ℕ → Got (List Node) → Svq1Half → Result ReadTree Refusal → Type 0
TreeFound s g h r = Answers g (TreeThere s g h) r

-- ---- macroblocks
abbrev pub read_motion_of : ReadChoice → Motion
read_motion_of r = motion_of r.motion r.vectors

abbrev pub choice_found : ReadChoice → Choice
choice_found r = choice_by r.skip (read_motion_of r) (tree_of r.blocks)

-- SKIP, which has nothing behind its mode: no motion and no tree
abbrev pub skipped_at : ℕ → ReadChoice
skipped_at at = record { next = at; skip = true; motion = None; vectors = replicate 4 zero_mv; blocks = replicate block_count off_block }

-- what it is, the vectors that it leaves, its difference, and that its tree can be shown
pub record ChoiceThere (s : List ℕ) (g : Got Choice) (d : Got Svq1Mv) (r : ReadChoice) : Type 0 where
  pub found : Found s g (choice_found r) r.next
  pub vectors_are : r.vectors ≡ vectors_of (choice_found r)
  pub inside : All Inside r.vectors
  pub differs : DiffersBy d r.motion
  pub sound : r.skip ≡ false → SoundTree (half_of (read_motion_of r)) (tree_of r.blocks)

abbrev pub ChoiceFound : List ℕ → Got Choice → Got Svq1Mv → Result ReadChoice Refusal → Type 0
ChoiceFound s g d r = Answers g (ChoiceThere s g d) r
