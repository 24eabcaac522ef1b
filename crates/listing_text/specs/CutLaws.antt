-- What is printed does not depend on the bytes that the program leaves unread. Assumes nothing.
use Prim.Native.Nat.{ℕ, ◌+◌, ◌*◌, ◌≤◌, ◌<◌}
use Rattle.std.specs.Prelude.{◌≡◌, refl, true, false, ◌&&◌, leb, take, Option, None, Some}
use Rattle.std.proofs.Common.{◌∙◌, arith, take_all, length-take-le, ne_eqb, leb-true, leb-false}
use Rattle.std.proofs.Math.Bool.{Bool}
use mathlib.Core.List.{List}
use Rattle.std.proofs.Math.Nat.{mul-le-mul}
use Rattle.std.proofs.Math.Decide.{ℕ_discrete}
use Rattle.std.proofs.Math.Dec.{eqb}
use Rattle.std.proofs.Math.ListN.{length}
use Rattle.bits.specs.Basics.{or_else, first_of, unless}
use Rattle.bits.specs.BasicsLaws.{or_none}
use Rattle.book.specs.Book.{codebook_bytes}
use Rattle.book_file.specs.BookFile.{file_refusal}
use Rattle.canvas.specs.Canvas.{padded16, size_refusal, canvas_refusal}
use Rattle.listing_job.specs.Job.{Job, most_width, most_height, job_in}
use Rattle.listing_job.specs.JobLaws.{job_small}
use Rattle.listing_text.specs.Listing.{Files, files_refusal_by, files_refusal, job_text, listing}
use Rattle.listing_text.specs.Listed.{files_by}
use Rattle.listing_text.specs.FilesLaws.{area_small, text_by}
use Rattle.listing_text.specs.Cut.{longest_job, longest_book, cut}
use Rattle.listing_text.specs.LengthLaws.{book_short, job_short}

-- a list that is not longer than what is read is read whole; of a longer one so much is read
data Read (m : ℕ) (l : List ℕ) : Type 0 where
  whole : take m l ≡ l → Read m l
  part : m < length l → length (take m l) ≡ m → Read m l

read : (m : ℕ) (l : List ℕ) → Read m l
read m l = go (leb (length l) m) refl
  where
    go : (b : Bool) → leb (length l) m ≡ b → Read m l
    go true q = whole (take_all m l (leb-true (length l) m q))
    go false q = let h = leb-false (length l) m q in part h (length-take-le m l (omega (arith, h)))

-- ---- the job line
no_job : (t : List ℕ) → longest_job < length t → job_in t ≡ None
no_job t h = go (job_in t) (job_short t)
  where
    go : (o : Option Job) → ((j : Job) → o ≡ Some j → length t ≤ longest_job) → o ≡ None
    go None f = refl
    go (Some j) f = absurd (omega (arith, f j refl))

job-cut : (t : List ℕ) → job_in (take (longest_job + 1) t) ≡ job_in t
job-cut t = go (read (longest_job + 1) t)
  where
    go : Read (longest_job + 1) t → job_in (take (longest_job + 1) t) ≡ job_in t
    go (whole e) = rw e
    go (part h e) = rw (no_job t (omega arith), no_job (take (longest_job + 1) t) (omega (arith, e)))

-- ---- the other files
same_refused : (f h : Files) (j : Job) (n : ℕ) → files_refusal f j ≡ n → files_refusal h j ≡ n → (n ≡ 0 → ⊥) → job_text f (Some j) ≡ job_text h (Some j)
unfolding job_text
same_refused f h j n p q z = rw (p, q, ne_eqb n 0 z)

long_book : (file : List ℕ) → longest_book < length file → file_refusal file ≡ 5
long_book file h = go (ℕ_discrete (file_refusal file) 5)
  where
    go : Dec (file_refusal file ≡ 5) → file_refusal file ≡ 5
    go (yes e) = e
    go (no d) = absurd (omega (arith, book_short file d))

module _ (j : Job) (wide : j.width ≤ most_width) (high : j.height ≤ most_height) (book codebook source reference job : List ℕ) where
  -- what is printed for these files but one
  abbrev prints : List ℕ → List ℕ → List ℕ → List ℕ → List ℕ
  prints b c s r = job_text (files_by b c s r job) (Some j)

  abbrev size : ℕ
  size = size_refusal j.width j.height

  abbrev side : ℕ
  side = most_width * most_height + 1

  source_cut : (b c r : List ℕ) → prints b c (take side source) r ≡ prints b c source r
  unfolding files_refusal_by first_of
  source_cut b c r = go (read side source)
    where
      area : j.width * j.height ≤ most_width * most_height
      area = mul-le-mul wide high

      other : (s : List ℕ) → side ≤ length s → files_refusal (files_by b c s r job) j ≡ or_else size 2
      other s h = rw (ne_eqb (length s) (j.width * j.height) (λ q. omega (arith, area)))

      go : Read side source → prints b c (take side source) r ≡ prints b c source r
      go (whole e) = rw e
      go (part h e) = same_refused _ _ j (or_else size 2) (other (take side source) (omega (arith, e))) (other source (omega arith)) (λ z. omega (arith, (or_none size 2 z).1))

  reference_cut : (b c s : List ℕ) → prints b c s (take side reference) ≡ prints b c s reference
  unfolding files_refusal_by first_of
  reference_cut b c s = go (read side reference)
    where
      stride : Bool
      stride = eqb (padded16 j.width) (padded16 j.width) && eqb (padded16 j.height) (padded16 j.height)

      last : ℕ
      last = or_else (unless (eqb (length c) codebook_bytes) 5) (or_else (file_refusal b) 0)

      source_ok : ℕ
      source_ok = unless (eqb (length s) (j.width * j.height)) 2

      n : ℕ
      n = or_else size (or_else source_ok (or_else (or_else (unless stride 3) 4) last))

      other : (r : List ℕ) → side ≤ length r → files_refusal (files_by b c s r job) j ≡ n
      other r h = rw (ne_eqb (length r) (padded16 j.width * padded16 j.height) (λ q. omega (arith, area_small j.width j.height wide high)))

      some_n : n ≡ 0 → ⊥
      some_n z =
          let a = or_none size (or_else source_ok (or_else (or_else (unless stride 3) 4) last)) z in
          let d = or_none source_ok (or_else (or_else (unless stride 3) 4) last) a.1 in
          omega (arith, (or_none (unless stride 3) 4 (or_none (or_else (unless stride 3) 4) last d.1).0).1)

      go : Read side reference → prints b c s (take side reference) ≡ prints b c s reference
      go (whole e) = rw e
      go (part h e) = same_refused _ _ j n (other (take side reference) (omega (arith, e))) (other reference (omega arith)) some_n

  -- the refusals before those of codebook and book
  abbrev before : List ℕ → List ℕ → ℕ → ℕ
  before s r n = or_else size (or_else (unless (eqb (length s) (j.width * j.height)) 2) (or_else (canvas_refusal j.width j.height (record { samples = r; stride = padded16 j.width; rows = padded16 j.height })) n))

  some_before : (s r : List ℕ) (n : ℕ) → (n ≡ 0 → ⊥) → before s r n ≡ 0 → ⊥
  some_before s r n k z =
      let a = or_none size _ z in
      let d = or_none (unless (eqb (length s) (j.width * j.height)) 2) _ a.1 in
      k (or_none (canvas_refusal j.width j.height (record { samples = r; stride = padded16 j.width; rows = padded16 j.height })) n d.1).1

  codebook_cut : (b s r : List ℕ) → prints b (take (codebook_bytes + 1) codebook) s r ≡ prints b codebook s r
  unfolding files_refusal_by first_of
  codebook_cut b s r = go (read (codebook_bytes + 1) codebook)
    where
      other : (c : List ℕ) → codebook_bytes + 1 ≤ length c → files_refusal (files_by b c s r job) j ≡ before s r 5
      other c h = rw (ne_eqb (length c) codebook_bytes (λ q. omega arith))

      go : Read (codebook_bytes + 1) codebook → prints b (take (codebook_bytes + 1) codebook) s r ≡ prints b codebook s r
      go (whole e) = rw e
      go (part h e) = same_refused _ _ j (before s r 5) (other (take (codebook_bytes + 1) codebook) (omega (arith, e))) (other codebook (omega arith)) (some_before s r 5 (λ z. omega arith))

  book_cut : (c s r : List ℕ) → prints (take (longest_book + 1) book) c s r ≡ prints book c s r
  unfolding files_refusal_by first_of
  book_cut c s r = go (read (longest_book + 1) book)
    where
      last : ℕ
      last = or_else (unless (eqb (length c) codebook_bytes) 5) 5

      other : (b : List ℕ) → longest_book + 1 ≤ length b → files_refusal (files_by b c s r job) j ≡ before s r last
      other b h = rw (long_book b (omega arith))

      go : Read (longest_book + 1) book → prints (take (longest_book + 1) book) c s r ≡ prints book c s r
      go (whole e) = rw e
      go (part h e) =
          same_refused _ _ j (before s r last) (other (take (longest_book + 1) book) (omega (arith, e))) (other book (omega arith))
          (some_before s r last (λ z. omega (arith, (or_none (unless (eqb (length c) codebook_bytes) 5) 5 z).1)))

-- what is printed
pub cut-same : (f : Files) → listing (cut f) ≡ listing f
unfolding listing job_text
cut-same f = rw (job-cut f.job) (go (job_in f.job) (job_small f.job))
  where
    go : (o : Option Job) → ((j : Job) → o ≡ Some j → (j.width ≤ most_width) × (j.height ≤ most_height)) → job_text (cut f) o ≡ job_text f o
    go None small = refl
    go (Some j) small =
        let s = small j refl in
        text_by (cut f).book (cut f).codebook (cut f).source (cut f).reference (cut f).job f.job j
        ∙ book_cut j s.0 s.1 f.book f.codebook f.source f.reference f.job (cut f).codebook (cut f).source (cut f).reference
        ∙ codebook_cut j s.0 s.1 f.book f.codebook f.source f.reference f.job f.book (cut f).source (cut f).reference
        ∙ source_cut j s.0 s.1 f.book f.codebook f.source f.reference f.job f.book f.codebook (cut f).reference
        ∙ reference_cut j s.0 s.1 f.book f.codebook f.source f.reference f.job f.book f.codebook f.source
