-- Laws of the errors over what the panel shows beside those that the writer states (document 02, §1): never above them, and of a plane of whole macroblocks the same, so that such a plane is listed by the stated errors.
-- Assumes nothing.
use Prim.Native.Nat.{ℕ, zero, suc, ◌%◌, ◌≤◌, ◌<◌}
use Rattle.std.specs.Prelude.{◌≡◌, Bool, List, ◌++◌, length, replicate, Option, Some, None}
use Rattle.std.proofs.Math.Path.{refl, sym}
use Rattle.std.proofs.Common.{ap, ◌∙◌, arith, eqb-true}
use Rattle.std.proofs.Math.Bool.{true, false}
use Rattle.std.proofs.Math.Dec.{eqb}
use Rattle.bits.specs.Basics.{Bytes, pick, sum}
use Rattle.bits.specs.BasicsLaws.{or_next}
use Rattle.bits.specs.Bits.{bits_of}
use Rattle.bits.specs.BitsLaws.{bits_whole}
use Rattle.bits.specs.SumLaws.{sum_same, sum_each_le}
use Rattle.canvas.specs.Canvas.{size_refusal}
use Rattle.canvas.specs.CanvasLaws.{plane_passes}
use Rattle.leaf.specs.Leaf.{sse}
use Rattle.mv_cache.specs.Grid.{part}
use Rattle.macroblock.specs.Macroblock.{Given, cols}
use Rattle.macroblock.specs.Choice.{Task, target}
use Rattle.macroblock.specs.Slices.{Slices}
use Rattle.plane.specs.Run.{End}
use Rattle.plane.specs.Plane.{count, Writing, step_stated, write_plane, writing_at}
use Rattle.plane.specs.Refusals.{write_refusal}
use Rattle.plane.specs.RefusalsLaws.{write_accepted, results_pass}
use Rattle.plane.specs.SlicesLaws.{SizedSlices}
use Rattle.claim.specs.Claim.{final, InMemory}
use Rattle.claim.specs.AcceptedLaws.{AcceptedPlane, accepted, slices_sized}
use Rattle.claim.specs.OutputLaws.{reached}
use Rattle.claim.specs.ClaimLaws.{sized_at, error_is, errors_to}
use Rattle.visible_error.specs.Visible.{ShownPlane, visible_error, visible_total}
use Rattle.visible_error.specs.VisibleNeeds.{Showable}
use Rattle.listing_job.specs.Job.{Job, job_in}
use Rattle.listing_job.specs.JobLaws.{job_small}
use Rattle.listing_text.specs.Listing.{Files, given_of, task_of, files_refusal, output_bytes, no_slices, plane_showing, listed_end, lines_to, macroblock_line, total_line, refused_text, text_with, text_into, plane_text, job_text, listing}
use Rattle.listing_text.specs.Listed.{Listable}
use Rattle.listing_text.specs.FilesLaws.{files_listable}
use Rattle.listed_errors.specs.PaddedLaws.{padded_error, never_above, whole}

-- ---- any plane, written from bit start into the bytes out with the result slices a
module _ (g : Given) (t : Task) (out : List ℕ) (start : ℕ) (a : Slices) where
  -- the plane that it leaves, and what the writer states: the error of macroblock k, and of the plane
  abbrev pub left_plane : ShownPlane
  left_plane = plane_showing g t (write_plane g t (bits_of out) start a).state.slices.recon

  abbrev pub stated_error : ℕ → ℕ
  stated_error k = (step_stated g t k (writing_at g t (bits_of out) start a k)).error

  abbrev pub stated_total : ℕ
  stated_total = (write_plane g t (bits_of out) start a).state.error

  -- one that nothing refuses, written to its last macroblock
  module _ (mem : InMemory g t) (passes : write_refusal g t out start a ≡ 0) (all : (write_plane g t (bits_of out) start a).refusal ≡ 0) where
    ok : AcceptedPlane g t
    ok = accepted g t (length out) start a mem passes

    sized : SizedSlices g a
    sized = slices_sized g t ok a (results_pass g a (length out) start (length t.source) passes).0

    end_is : (write_plane g t (bits_of out) start a).state ≡ final g t (bits_of out) start a
    end_is = ap (λ (e : End Writing). e.state) (reached g t (bits_of out) (bits_whole out) start a all)

    showable : Showable left_plane
    showable =
        let f = plane_passes g.width g.height g.reference (or_next (size_refusal g.width g.height) _ ok.size_passes ∙ ok.canvas_passes) in
        let long = ap (λ (w : Writing). length w.slices.recon) end_is ∙ (sized_at g t ok (bits_of out) (bits_whole out) start a sized all (count g)).recon ∙ sym ok.canvas in
        record {
          fits = record { width = f.width; height = f.height; stride = f.stride; rows = f.rows; samples = long };
          samples = (write_accepted g a (length out) start (length t.source) passes).1;
        }

    stated_is : (k : ℕ) → k < count g → stated_error k ≡ padded_error left_plane k
    stated_is k h =
        error_is g t ok (bits_of out) (bits_whole out) start a sized all k h
        ∙ sym (ap (λ (w : Writing). sse (target g t k) (part 16 (cols g) k w.slices.recon)) end_is)

    total_is : stated_total ≡ sum stated_error (count g)
    total_is = ap (λ (w : Writing). w.error) end_is ∙ errors_to g t ok (bits_of out) (bits_whole out) start a sized all (count g)

    -- each visible error, and their total, is at most the stated one
    pub visible_at_most : (k : ℕ) → k < count g → visible_error left_plane k ≤ stated_error k
    visible_at_most k h = rw (stated_is k h) (never_above left_plane showable k h)

    pub total_at_most : visible_total left_plane ≤ stated_total
    unfolding visible_total
    total_at_most = rw total_is (sum_each_le _ _ (count g) visible_at_most)

    -- of whole macroblocks they are the same
    module _ (w : g.width % 16 ≡ 0) (v : g.height % 16 ≡ 0) where
      pub visible_is_stated : (k : ℕ) → k < count g → visible_error left_plane k ≡ stated_error k
      visible_is_stated k h = whole left_plane showable k h w v ∙ sym (stated_is k h)

      pub total_is_stated : visible_total left_plane ≡ stated_total
      unfolding visible_total
      total_is_stated = sum_same _ _ (count g) visible_is_stated ∙ sym total_is

-- ---- texts with the same errors
module _ (g : Given) (t : Task) (out : List ℕ) (f h : ℕ → ℕ) where
  lines_same : (n : ℕ) → ((k : ℕ) → k < n → f k ≡ h k) → lines_to g t out f n ≡ lines_to g t out h n
  unfolding lines_to macroblock_line
  lines_same zero e = refl
  lines_same (suc n) e = rw (lines_same n (λ k l. e k (omega arith)), e n (omega arith))

  -- a plane that ended early lists none
  text_same : (a b : ℕ) → ((listed_end g t out).refusal ≡ 0 → ((k : ℕ) → k < count g → f k ≡ h k) × (a ≡ b)) → text_with g t out f a ≡ text_with g t out h b
  unfolding text_with
  text_same a b e = go (eqb (listed_end g t out).refusal 0) refl
    where
      go : (q : Bool) → eqb (listed_end g t out).refusal 0 ≡ q
          → pick q (lines_to g t out f (count g) ++ total_line (listed_end g t out).state.bits a) (refused_text (listed_end g t out).refusal)
          ≡ pick q (lines_to g t out h (count g) ++ total_line (listed_end g t out).state.bits b) (refused_text (listed_end g t out).refusal)
      go true q = let same = e (eqb-true (listed_end g t out).refusal 0 q) in rw (lines_same (count g) same.0, same.1)
      go false q = refl

-- ---- the listing by the stated errors, as it was before document 02
abbrev zeros : List ℕ
zeros = replicate output_bytes 0

abbrev pub stated_text : Given → Task → List ℕ
stated_text g t = text_with g t (bits_of zeros) (stated_error g t zeros 0 (no_slices g)) (stated_total g t zeros 0 (no_slices g))

abbrev pub stated_job : Files → Option Job → List ℕ
stated_job f None = refused_text 1
stated_job f (Some j) = pick (eqb (files_refusal f j) 0) (stated_text (given_of f j) (task_of f j)) (refused_text (files_refusal f j))

abbrev pub stated_listing : Files → List ℕ
stated_listing f = stated_job f (job_in f.job)

-- a plane of whole macroblocks that nothing refuses, also where it ends early
plane_as_before : (g : Given) (t : Task) → Listable g t → InMemory g t → g.width % 16 ≡ 0 → g.height % 16 ≡ 0 → plane_text g t ≡ stated_text g t
unfolding plane_text text_into
plane_as_before g t fine mem w v =
    text_same g t (bits_of zeros) _ _ _ _ (λ all. (visible_is_stated g t zeros 0 (no_slices g) mem fine.passes all w v, total_is_stated g t zeros 0 (no_slices g) mem fine.passes all w v))

-- whatever the files are, a job of whole macroblocks prints what it printed
pub listing_as_before : (f : Files) → Bytes f.source → Bytes f.reference → ((j : Job) → job_in f.job ≡ Some j → (j.width % 16 ≡ 0) × (j.height % 16 ≡ 0)) → listing f ≡ stated_listing f
unfolding listing job_text
listing_as_before f source reference sides = go (job_in f.job) refl
  where
    two : (j : Job) → job_in f.job ≡ Some j → (b : Bool) → eqb (files_refusal f j) 0 ≡ b
        → pick b (plane_text (given_of f j) (task_of f j)) (refused_text (files_refusal f j)) ≡ pick b (stated_text (given_of f j) (task_of f j)) (refused_text (files_refusal f j))
    two j e true q =
        let small = job_small f.job j e in
        let fine = files_listable f j small.0 small.1 (eqb-true (files_refusal f j) 0 q) in
        plane_as_before (given_of f j) (task_of f j) fine (record { source = source; reference = reference }) (sides j e).0 (sides j e).1
    two j e false q = refl

    go : (m : Option Job) → job_in f.job ≡ m → job_text f m ≡ stated_job f m
    go None e = refl
    go (Some j) e = two j e (eqb (files_refusal f j) 0) refl
