-- Laws of the program's files: their refusals in order, and what they are where nothing refuses them. Assumes nothing.
use Rattle.std.specs.Prelude.{ℕ, ◌+◌, ◌*◌, ◌/◌, ◌^◌, ◌≤◌, ◌≡◌, refl, List, [], ◌∷◌, ◌++◌, eqb, replicate, Some}
use Rattle.std.proofs.Common.{sym, ◌∙◌, le_refl, mul-le-mul, arith, lit≤}
use Rattle.std.proofs.Math.ListN.{length, length-replicate}
use borrow.Author.Tests.{eq-eqb, ne_eqb, le-leb}
use Rattle.bits.specs.Basics.{first_of, unless}
use Rattle.bits.specs.BasicsLaws.{or_next, first_met, first_passed, first_last, chain_met, chain_passed, first-none}
use Rattle.bits.specs.declared.refusal.Refusal.{Refusal}
use Rattle.bits.specs.Refusals.{number_of}
use Rattle.bits.specs.Calls.{start_refusal}
use Rattle.bits.specs.CallsLaws.{refusal_met}
use Rattle.book.specs.Book.{book_bytes, codebook_bytes, book_refusal, data_refusal}
use Rattle.book_file.specs.BookFile.{file_refusal, file_book}
use Rattle.book_file.specs.BookFileLaws.{accepted}
use Rattle.book_file.specs.BookFileForms.{BookFileRead, read_file_refusal, read_file_book}
use Rattle.canvas.specs.Canvas.{Canvas, padded16, source_links}
use Rattle.macroblock.specs.Macroblock.{Given}
use Rattle.macroblock.specs.Choice.{Task}
use Rattle.plane.specs.Plane.{count}
use Rattle.plane.specs.Refusals.{lengths_refusal, slices_refusal, write_refusal}
use Rattle.plane.specs.RefusalsLaws.{lent_passes, write_passes}
use Rattle.listing_job.specs.Job.{Job, most_width, most_height}
use Rattle.listing_text.specs.Listing.{Files, given_of, task_of, files_refusal_by, files_refusal, output_bytes, no_slices, plane_text, refused_text, job_text}
use Rattle.listing_text.specs.LineForms.{ListedPut}
use Rattle.listing_text.specs.Listed.{listing_room, most_blocks, files_by, FilesChecked, Listable}

-- ---- the refusals in their order
refusing : (refusal : ℕ) (file : List ℕ) (r : ℕ) (book : List ℕ) → r ≡ refusal → (r ≡ 0 → ⊥) → FilesChecked refusal file r book
refusing refusal file r book e h = record { refused = e; held = λ z. absurd (h z) }

module _ (w h : ℕ) (c : Canvas) (source codebook : ℕ) (file : List ℕ) where
  abbrev refusal : ℕ
  refusal = files_refusal_by w h c source codebook file

  abbrev plane : List ℕ
  plane = source_links w h source c

  pub files_plane : (n : ℕ) (book : List ℕ) → n ≡ first_of plane → (n ≡ 0 → ⊥) → FilesChecked refusal file n book
  unfolding files_refusal_by
  files_plane n book e k = refusing refusal file n book (chain_met n plane _ e k) k

  -- the same, with the refusal itself
  pub files_plane_by : (r : Refusal) (book : List ℕ) → number_of r ≡ first_of plane → FilesChecked refusal file (number_of r) book
  files_plane_by r book e = files_plane (number_of r) book e (refusal_met r (number_of r) refl)

  module _ (z : first_of plane ≡ 0) where
    pub files_codebook : (book : List ℕ) → (codebook ≡ codebook_bytes → ⊥) → FilesChecked refusal file 5 book
    unfolding files_refusal_by
    files_codebook book b =
        refusing refusal file 5 book (chain_passed 5 plane _ z (first_met 5 _ _ (rw (ne_eqb codebook codebook_bytes b)) (λ q. omega arith))) (λ q. omega arith)

    pub files_book : (book : List ℕ) (r : ℕ) (after : List ℕ) → codebook ≡ codebook_bytes → length book ≡ book_bytes → BookFileRead file book r after → FilesChecked refusal file r after
    unfolding files_refusal_by read_file_refusal read_file_book
    files_book book r after b size p =
        let whole = eq-eqb (length book) book_bytes size in
        let is : r ≡ file_refusal file = rw whole at p.refusal in
        record {
          refused = chain_passed r plane _ z (first_passed r _ _ (rw (eq-eqb codebook codebook_bytes b)) (first_last r _ is));
          held = λ q. rw (whole, eq-eqb (file_refusal file) 0 (sym is ∙ q)) at p.book_after;
        }

-- ---- sizes of the program
pub count_small : (w h : ℕ) → w ≤ most_width → h ≤ most_height → (h + 15) / 16 * ((w + 15) / 16) ≤ most_blocks
count_small w h a b =
    let high : (h + 15) / 16 ≤ 9 = omega arith in
    let wide : (w + 15) / 16 ≤ 11 = omega arith in
    let both : (h + 15) / 16 * ((w + 15) / 16) ≤ 9 * 11 = mul-le-mul high wide in
    both

pub area_small : (w h : ℕ) → w ≤ most_width → h ≤ most_height → padded16 w * padded16 h ≤ most_width * most_height
area_small w h a b =
    let wide : padded16 w ≤ most_width = omega arith in
    let high : padded16 h ≤ most_height = omega arith in
    mul-le-mul wide high

-- ---- files that nothing refuses
module _ (f : Files) (j : Job) where
  abbrev g : Given
  g = given_of f j

  abbrev t : Task
  t = task_of f j

  -- the program's own slices pass
  slices_pass : slices_refusal g (no_slices g) ≡ 0
  unfolding lengths_refusal
  slices_pass =
      let v : length {A = ℕ} (replicate (4 * count g) 0) ≡ 4 * count g = length-replicate (4 * count g) 0 in
      let s : length {A = ℕ} (replicate (g.reference.stride * g.reference.rows) 0) ≡ g.reference.stride * g.reference.rows = length-replicate (g.reference.stride * g.reference.rows) 0 in
      rw (v, s, le-leb (4 * count g) (4 * count g) (le_refl (4 * count g)), eq-eqb (g.reference.stride * g.reference.rows) (g.reference.stride * g.reference.rows) refl)

  files_pass : (out : List ℕ) → length out ≤ 2 ^ 28 → files_refusal f j ≡ 0 → write_refusal g t out 0 (no_slices g) ≡ 0
  unfolding files_refusal_by data_refusal
  files_pass out short e =
      let p = first-none (source_links j.width j.height (length f.source) g.reference ++ (unless (eqb (length f.codebook) codebook_bytes) 5 ∷ file_refusal f.book ∷ [])) e in
      let plane : 0 ≡ first_of (source_links j.width j.height (length f.source) g.reference) =
      first_passed 0 _ _ p.0 (first_passed 0 _ _ p.1.0 (first_last 0 _ (sym p.1.1.0))) in
      let book : book_refusal (file_book f.book) ≡ 0 = (accepted f.book p.1.1.1.1.0).passes in
      let start : start_refusal (length out) 0 ≡ 0 = rw (le-leb (length out) (2 ^ 28) short, le-leb 0 (8 * length out) (omega arith)) in
      write_passes g (no_slices g) (length out) 0 (length f.source) (sym plane)
      (lent_passes g (no_slices g) (length out) 0 (or_next _ (book_refusal (file_book f.book)) p.1.1.1.0 ∙ book) slices_pass start)

  pub files_listable : j.width ≤ most_width → j.height ≤ most_height → files_refusal f j ≡ 0 → Listable g t
  files_listable a b e = record { wide = a; high = b; passes = files_pass (replicate output_bytes 0) (lit≤ tt) e }

  -- what is printed
  pub put_job_refused : (n : ℕ) → n ≡ files_refusal f j → (n ≡ 0 → ⊥) → (text : List ℕ) (r : ℕ) (after : List ℕ) → ListedPut 29 text 0 (refused_text n) r after → ListedPut listing_room text 0 (job_text f (Some j)) r after
  unfolding job_text
  put_job_refused n e h text r after p = rw (← e, ne_eqb n 0 h) (record { next = p.next; short = omega (arith, p.short); bytes_after = p.bytes_after })

  -- the same, with the refusal itself
  pub put_job_refused_by : (n : Refusal) → number_of n ≡ files_refusal f j → (text : List ℕ) (r : ℕ) (after : List ℕ) → ListedPut 29 text 0 (refused_text (number_of n)) r after → ListedPut listing_room text 0 (job_text f (Some j)) r after
  put_job_refused_by n e text r after p = put_job_refused (number_of n) e (refusal_met n (number_of n) refl) text r after p

  pub text_plane : files_refusal f j ≡ 0 → job_text f (Some j) ≡ plane_text g t
  unfolding job_text
  text_plane e = rw e

-- the text of a job does not depend on how its line was written
pub text_by : (book codebook source reference line other : List ℕ) (j : Job)
    → job_text (files_by book codebook source reference line) (Some j) ≡ job_text (files_by book codebook source reference other) (Some j)
unfolding job_text
text_by book codebook source reference line other j = refl
