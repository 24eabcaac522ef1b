-- Laws of the room that a listing needs, and of the whole listing put into a text. Assumes nothing.
use Prim.Native.Nat.{ℕ, zero, suc, ◌*◌, ◌≤◌, ◌<◌}
use Rattle.std.specs.Prelude.{◌≡◌, refl, Bool, true, false, List, [], ◌∷◌, ◌++◌, eqb, Option, None, Some}
use Rattle.std.proofs.Math.Path.{sym, ap}
use native.Mathlib.Omega.{arith}
use Rattle.std.proofs.Math.ListN.{length, drop, length-append}
use Rattle.std.proofs.Common.{length-take-le}
use borrow.Author.Tests.{le-leb, lt-leb}
use Rattle.bits.specs.Basics.{pick}
use Rattle.text.specs.LengthLaws.{decimal_most}
use Rattle.text.specs.Text.{joined, line_of}
use Rattle.text.specs.WritingForms.{put_text}
use Rattle.macroblock.specs.declared.svq1_enc_inter.Svq1MbMode.{Svq1MbMode}
use Rattle.macroblock.specs.declared.svq1_enc_inter.Svq1MbMode.TheVariants.{Inter, Inter4Mv, Intra, Skip}
use Rattle.macroblock.specs.Macroblock.{Given}
use Rattle.macroblock.specs.Choice.{Task}
use Rattle.plane.specs.Run.{End}
use Rattle.plane.specs.Plane.{count, Writing, step_stated}
use Rattle.listing_job.specs.Job.{Job, most_width, most_height, job_in}
use Rattle.listing_job.specs.JobLaws.{job_small}
use Rattle.listing_text.specs.Listing.{Files, given_of, task_of, files_refusal, mode_name, listed_state, listed_end, macroblock_line, lines_to, total_line, refused_text, text_with, text_into, plane_text, job_text, listing}
use Rattle.listing_text.specs.LineForms.{ListedPut}
use Rattle.listing_text.specs.Listed.{listing_room, most_blocks, Listed}
use Rattle.listing_text.specs.FilesLaws.{count_small}

-- ---- each line is short
name_most : (m : Svq1MbMode) → length (mode_name m) ≤ 9
name_most Inter = omega arith
name_most Inter4Mv = omega arith
name_most Intra = omega arith
name_most Skip = omega arith

refused_most : (n : ℕ) → length (refused_text n) ≤ 29
unfolding refused_text line_of joined
refused_most n = simp length-append (omega (arith, decimal_most n))

total_most : (bits error : ℕ) → length (total_line bits error) ≤ 48
unfolding total_line line_of joined
total_most bits error = simp length-append (omega (arith, decimal_most bits, decimal_most error))

five_most : (a b c d e : List ℕ) → length a ≤ 20 → length b ≤ 20 → length c ≤ 9 → length d ≤ 20 → length e ≤ 20 → length (line_of (a ∷ b ∷ c ∷ d ∷ e ∷ [])) ≤ 94
unfolding line_of joined
five_most a b c d e p q r s t = simp length-append (omega arith)

module _ (g : Given) (t : Task) (out : List ℕ) where
  module _ (error : ℕ → ℕ) where
    line_most_lem : (k : ℕ) → length (macroblock_line g t out error k) ≤ 94
    unfolding macroblock_line
    line_most_lem k =
        let m = step_stated g t k (listed_state g t out k) in
        five_most _ _ _ _ _ (decimal_most _) (decimal_most _) (name_most m.mode) (decimal_most m.bits) (decimal_most (error k))

    lines_most : (n : ℕ) → length (lines_to g t out error n) ≤ 94 * n
    unfolding lines_to
    lines_most zero = omega arith
    lines_most (suc n) = omega (arith, length-append (lines_to g t out error n) (macroblock_line g t out error n), lines_most n, line_most_lem n)

    with_most : (total : ℕ) → count g ≤ most_blocks → length (text_with g t out error total) ≤ listing_room
    unfolding text_with
    with_most total h = go (eqb e.refusal 0)
      where
        e : End Writing
        e = listed_end g t out

        go : (b : Bool) → length (pick b (lines_to g t out error (count g) ++ total_line e.state.bits total) (refused_text e.refusal)) ≤ listing_room
        go true = omega (arith, length-append (lines_to g t out error (count g)) (total_line e.state.bits total), lines_most (count g), total_most e.state.bits total)
        go false = omega (arith, refused_most e.refusal)

  text_most : count g ≤ most_blocks → length (text_into g t out) ≤ listing_room
  unfolding text_into
  text_most h = with_most _ _ h

plane_most : (g : Given) (t : Task) → count g ≤ most_blocks → length (plane_text g t) ≤ listing_room
unfolding plane_text
plane_most g t h = text_most g t _ h

-- every listing fits
pub listing-fits : (f : Files) → length (listing f) ≤ listing_room
unfolding listing job_text
listing-fits f = go (job_in f.job) (λ j q. job_small f.job j q)
  where
    go : (o : Option Job) → ((j : Job) → o ≡ Some j → (j.width ≤ most_width) × (j.height ≤ most_height)) → length (job_text f o) ≤ listing_room
    go None small = omega (arith, refused_most 1)
    go (Some j) small = two (eqb (files_refusal f j) 0)
      where
        two : (b : Bool) → length (pick b (plane_text (given_of f j) (task_of f j)) (refused_text (files_refusal f j))) ≤ listing_room
        two true = let s = small j refl in plane_most (given_of f j) (task_of f j) (count_small j.width j.height s.0 s.1)
        two false = omega (arith, refused_most (files_refusal f j))

-- ---- the whole listing
module _ (f : Files) (text : List ℕ) where
  pub listed_short : length text < listing_room → Listed f text 0 text
  listed_short h = let e = lt-leb listing_room (length text) h in record { answer = rw e; text_after = rw e; within = omega arith; counted = refl }

  pub listed_put : (r : ℕ) (after : List ℕ) → listing_room ≤ length text → ListedPut listing_room text 0 (listing f) r after → Listed f text r after
  unfolding put_text
  listed_put r after h p =
      let e = le-leb listing_room (length text) h in
      let n : r ≡ length (listing f) = omega (arith, p.next) in
      let is : after ≡ listing f ++ drop r text = rw p.next p.bytes_after in
      let inside : r ≤ length after = omega (arith, n, ap length is, length-append (listing f) (drop r text)) in
      record { answer = rw e n; text_after = rw e is; within = inside; counted = sym (length-take-le r after inside) }

  -- a job line of another form
  pub listed_none : (r : ℕ) (after : List ℕ) → listing_room ≤ length text → job_in f.job ≡ None → ListedPut 29 text 0 (refused_text 1) r after → Listed f text r after
  unfolding listing job_text
  listed_none r after h q p =
      listed_put r after h (rw q (record { next = p.next; short = omega (arith, p.short); bytes_after = p.bytes_after }))

  pub listed_job : (j : Job) (r : ℕ) (after : List ℕ) → listing_room ≤ length text → job_in f.job ≡ Some j → ListedPut listing_room text 0 (job_text f (Some j)) r after → Listed f text r after
  unfolding listing
  listed_job j r after h q p = listed_put r after h (rw q p)
