-- Laws of a macroblock's samples: the block that a zero vector reads, what a tree is laid over by cases, and the room for both.
-- Assumes nothing.
use Rattle.std.specs.Prelude.{◌≡◌, refl, List, [], ◌∷◌, map, ℕ, zero, suc, ◌+◌, ◌*◌, ◌/◌, ◌%◌, ◌<◌, length, take, set, get_or, replicate}
use Rattle.std.proofs.Common.{sym, ap, ◌∙◌, arith, zero-add, add-one, length-set, ext_get_or, take-suc-set}
use Rattle.std.proofs.lemmas.List.{length-replicate, replicate-append-replicate}
use Rattle.book.specs.declared.svq1_vlc.Svq1Half.{Svq1Half}
use Rattle.bits.specs.Basics.{All, signed_byte}
use Rattle.bits.specs.BasicsLaws.{length_values, value_at}
use Rattle.vectors.specs.declared.svq1_motion_predictor.Svq1Mv.{Svq1Mv}
use Rattle.vectors.specs.Vectors.{zero_mv}
use Rattle.canvas.specs.Canvas.{Canvas, blocks_along}
use Rattle.compensation.specs.Compensation.{moved_sample, moved_block}
use Rattle.compensation.specs.CompensationLaws.{length_moved}
use Rattle.mv_cache.specs.CacheNeeds.{Stored}
use Rattle.mv_cache.specs.Grid.{entry_of, part, put_part}
use Rattle.mv_cache.specs.GridLaws.{length_part, part_at}
use Rattle.compensation.specs.MovedForms.{moved_part, Placed}
use Rattle.compensation.specs.PartsLaws.{four_moved}
use Rattle.vectors.specs.VectorsLaws.{Inside, zero_inside}
use Rattle.compensation.specs.RowForms.{cell}
use Rattle.compensation.specs.RowFormsLaws.{half_in}
use Rattle.tree.specs.GeometryLaws.{in_whole}
use Rattle.tree_samples.specs.RebuildNeeds.{Lies, Rebuilding, rebuilt_by}
use Rattle.tree_samples.specs.ShownLaws.{rebuilt-shown}
use Rattle.tree.specs.TreeBits.{Node}
use Rattle.tree.specs.WalkNeeds.{SoundTree}
use Rattle.macroblock.specs.declared.svq1_enc_inter.MbMotion.{MbMotion}
use Rattle.macroblock.specs.declared.svq1_enc_inter.MbMotion.TheVariants.{None, One, Four}
use Rattle.canvas.specs.declared.svq1_plane.Svq1PlaneCanvas.{Svq1PlaneCanvas}
use Rattle.macroblock.specs.Macroblock.{Given, Motion, still, single, four, skipped, coded, half_of, left_of, top_of, reference_block, baseline, shown}
use Rattle.macroblock.specs.MacroblockNeeds.{given_by}
use Rattle.macroblock.specs.MotionForms.{motion_of}
use Rattle.macroblock.specs.SampleNeeds.{Stands, Laid, Showing, Shows, quarters}
use Rattle.macroblock.specs.Slices.{Slices}

-- the macroblocks in a row, and macroblock k's place, by the stride
module _ (c : Canvas) (cols k : ℕ) (s : Stands c cols k) where
  pub cols_is : c.stride / 16 ≡ cols
  cols_is = omega (arith, s.across)

  pub stands_at : Placed c (16 * (k % (c.stride / 16))) (16 * (k / (c.stride / 16)))
  stands_at = rw cols_is s.placed

-- a sample that a zero vector reads
still_sample : (c : Canvas) (cols k : ℕ) → Stands c cols k → (j : ℕ) → j < 256
    → moved_sample c 16 (16 * (k % cols)) (16 * (k / cols)) zero_mv j ≡ get_or c.samples (entry_of 16 cols k j) 0
unfolding cell
still_sample c cols k s j h =
    let p = s.placed in
    let x : ℕ = 16 * (k % cols) + j % 16 in
    let y : ℕ = 16 * (k / cols) + j / 16 in
    let e : y * c.stride + x ≡ entry_of 16 cols k j =
    let a : y ≡ k / cols * 16 + j / 16 = omega arith in
    let b : x ≡ k % cols * 16 + j % 16 = omega arith in
    rw (a, b, s.across) in
    half_in c x y 0 0 (omega arith) (omega arith) (omega (arith, p.x_in)) (omega (arith, p.y_in)) ∙ ap (λ (i : ℕ). get_or c.samples i 0) e

-- MACROBLOCK k is the block that a zero vector reads
pub still_block : (c : Canvas) (cols k : ℕ) → Stands c cols k → moved_block c 16 (16 * (k % cols)) (16 * (k / cols)) zero_mv ≡ part 16 cols k c.samples
unfolding moved_block
still_block c cols k s =
    ext_get_or 0 _ _ (length_values _ 256 0 ∙ sym (length_part 16 cols (omega arith) s.wide k c.samples)) (λ j l.
    let h : j < 256 = rw length_values at l in
    value_at (moved_sample c 16 (16 * (k % cols)) (16 * (k / cols)) zero_mv) 256 0 j 0 h
    ∙ ap (moved_sample c 16 (16 * (k % cols)) (16 * (k / cols)) zero_mv) (zero-add j)
    ∙ still_sample c cols k s j h
    ∙ sym (part_at 16 cols (omega arith) s.wide k c.samples j h))

-- one zero more
pub clear_more : (xs : List ℕ) (j : ℕ) → j < 256 → length xs ≡ 256 → take j xs ≡ replicate j 0
    → (length (set xs j 0) ≡ 256) × (take (j + 1) (set xs j 0) ≡ replicate (j + 1) 0)
clear_more xs j h n e = (
  length-set xs j 0 ∙ n,
  rw (add-one j, take-suc-set xs j 0 (omega arith), e) (replicate-append-replicate j 1 0 ∙ ap (λ (m : ℕ). replicate m 0) (add-one j)),
)

-- four quarters, one after the other
pub quarters-moved : (c : Canvas) (x y : ℕ) (vs : List Svq1Mv) (a b d e : Svq1Mv) (o1 o2 o3 o4 xs : List ℕ) → length xs ≡ 256
    → a ≡ get_or vs 0 zero_mv → b ≡ get_or vs 1 zero_mv → d ≡ get_or vs 2 zero_mv → e ≡ get_or vs 3 zero_mv
    → o1 ≡ moved_part c x y a 8 2 0 xs → o2 ≡ moved_part c x y b 8 2 1 o1 → o3 ≡ moved_part c x y d 8 2 2 o2 → o4 ≡ moved_part c x y e 8 2 3 o3
    → o4 ≡ quarters c x y vs
unfolding quarters
quarters-moved c x y vs a b d e o1 o2 o3 o4 xs h p q r s f1 f2 f3 f4 =
    rw (f4, f3, f2, f1, p, q, r, s) (four_moved c x y (get_or vs 0 zero_mv) (get_or vs 1 zero_mv) (get_or vs 2 zero_mv) (get_or vs 3 zero_mv) xs h)

-- what a tree is laid over, by the motion
module _ (c : Svq1PlaneCanvas) (reference : List ℕ) (k : ℕ) (m : MbMotion) (vs : List Svq1Mv) (out : List ℕ) where
  abbrev lent : Canvas
  lent = record { samples = reference; stride = c.stride; rows = c.rows }

  abbrev Over : Type 0
  Over = (book codebook : List ℕ) → out ≡ baseline (given_by c reference book codebook) k (motion_of m vs)

  pub over_none : m ≡ None → out ≡ replicate 256 0 → Over
  unfolding baseline
  over_none e o book codebook = rw e o

  module _ (s : Stands lent (blocks_along c.width) k) where
    pub over_one : (v d : Svq1Mv) → m ≡ One v d → out ≡ moved_block lent 16 (16 * (k % (c.stride / 16))) (16 * (k / (c.stride / 16))) v → Over
    unfolding baseline
    over_one v d e o book codebook = rw e (rw (cols_is lent (blocks_along c.width) k s) at o)

    pub over_four : m ≡ Four → out ≡ quarters lent (16 * (k % (c.stride / 16))) (16 * (k / (c.stride / 16))) vs → Over
    unfolding baseline quarters
    over_four e o book codebook = rw e (rw (cols_is lent (blocks_along c.width) k s) at o)

-- ---- what a tree shows
pub length_baseline : (g : Given) (k : ℕ) (m : Motion) → length (baseline g k m) ≡ 256
unfolding baseline
length_baseline g k still = length-replicate {A = ℕ} 256 0
length_baseline g k (single v) = length_moved g.reference 16 (left_of g k) (top_of g k) v
length_baseline g k (four a b c d) = length_values _ 256 0

-- the whole macroblock, in 256 samples
pub whole-tree : (c : Canvas) (cols k raised p n : ℕ) (h half : Svq1Half) (t : List Node) → Showing c cols k raised half t → h ≡ half → p ≡ 256 → n ≡ 256
    → Rebuilding h t p raised 16 5 0 n
whole-tree c cols k raised p n h half t g e a b =
    let lies : Lies 16 5 0 256 256 =
    record { deep = refl; number = omega arith; stride = omega arith; predictor = in_whole; predictor_small = omega arith; shown = in_whole; shown_small = omega arith } in
    rw (e, a, b) (record { lies = lies; copy = g.copy; sound = g.sound })

pub tree-shown : (c : Svq1PlaneCanvas) (reference raised : List ℕ) (k : ℕ) (m : Motion) (t : List Node) (h : Svq1Half) (base zeros out : List ℕ) → h ≡ half_of m → SoundTree (half_of m) t
    → ((book codebook : List ℕ) → base ≡ baseline (given_by c reference book codebook) k m) → zeros ≡ replicate 256 0 → out ≡ rebuilt_by raised h 16 base t 5 0 zeros
    → Shows c reference raised k (coded m t) out
unfolding shown
tree-shown c reference raised k m t h base zeros out e sound b z o book codebook bytes r =
    o ∙ rw (r, e, b book codebook, z) (rebuilt-shown codebook bytes (half_of m) 5 (baseline (given_by c reference book codebook) k m) t sound)

pub skip_shown : (c : Svq1PlaneCanvas) (reference raised : List ℕ) (k : ℕ) (out : List ℕ) → out ≡ part 16 (blocks_along c.width) k reference → Shows c reference raised k skipped out
unfolding shown reference_block
skip_shown c reference raised k out o book codebook bytes r = o

-- ---- the four vectors
pub inside_at : (vs : List Svq1Mv) → All Inside vs → (j : ℕ) → Inside (get_or vs j zero_mv)
inside_at [] h j = zero_inside
inside_at (v ∷ vs) h zero = h.0
inside_at (v ∷ vs) h (suc j) = inside_at vs h.1 j

pub four_are : (vs : List Svq1Mv) → length vs ≡ 4 → vs ≡ get_or vs 0 zero_mv ∷ get_or vs 1 zero_mv ∷ get_or vs 2 zero_mv ∷ get_or vs 3 zero_mv ∷ []
four_are [] h = absurd (omega arith)
four_are (a ∷ []) h = absurd (omega arith)
four_are (a ∷ b ∷ []) h = absurd (omega arith)
four_are (a ∷ b ∷ c ∷ []) h = absurd (omega arith)
four_are (a ∷ b ∷ c ∷ d ∷ []) h = refl
four_are (a ∷ b ∷ c ∷ d ∷ e ∷ vs) h = absurd (omega arith)

pub laid_four : (cols k : ℕ) (samples : List ℕ) (vs : List Svq1Mv) (u w : Slices) → length vs ≡ 4 → w.recon ≡ put_part 16 cols k samples u.recon
    → Stored cols k (get_or vs 0 zero_mv ∷ get_or vs 1 zero_mv ∷ get_or vs 2 zero_mv ∷ get_or vs 3 zero_mv ∷ []) u.vx u.vy w.vx w.vy → Laid cols k samples vs u w
laid_four cols k samples vs u w n e s =
    record {
      recon_put = e;
      vx_put = s.x_put ∙ ap (λ (l : List Svq1Mv). put_part 2 cols k (map (λ (v : Svq1Mv). signed_byte v.x) l) u.vx) (sym (four_are vs n));
      vy_put = s.y_put ∙ ap (λ (l : List Svq1Mv). put_part 2 cols k (map (λ (v : Svq1Mv). signed_byte v.y) l) u.vy) (sym (four_are vs n));
    }
