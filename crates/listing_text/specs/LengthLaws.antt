-- Laws of how long a job line and a book file can be. Assumes nothing.
use Prim.Native.Nat.{ℕ, zero, suc, ◌+◌, ◌*◌, ◌^◌, ◌≤◌, ◌<◌}
use Rattle.std.specs.Prelude.{◌≡◌, Bool, ◌&&◌, List, [], ◌∷◌, ◌++◌, map, ltb, length, Option, None, Some}
use Rattle.std.proofs.Math.Path.{refl, ap}
use Rattle.std.proofs.Common.{sym, zero-add, lt_of_le_of_lt, lt_of_lt_of_le, lit<, length-append}
use Rattle.std.proofs.Math.Bool.{true, false}
use Rattle.std.proofs.Math.Nat.{add-mul, pow-le-pow_right}
use native.Mathlib.Omega.{arith}
use Rattle.std.proofs.Math.Dec.{eqb}
use borrow.Author.Tests.{ne_eqb, eqb-true, eqb-false, ltb-true}
use Rattle.bits.specs.Basics.{pick, All, sum}
use Rattle.bits.specs.BasicsLaws.{both_true}
use Rattle.text.specs.Text.{number_up_to, lines_of, fields_of, digits_before, decimal, line_of}
use Rattle.text.specs.TextLaws.{none_some, number_le}
use Rattle.text.specs.LengthLaws.{decimal_most, decimal_few, fields_size, line_size, append_size}
use Rattle.text.specs.OneTextLaws.{number_decimal, joined_fields, ended, lines_ended}
use Rattle.book.specs.Book.{book_entries}
use Rattle.book_file.specs.BookFile.{Line, file_tables, file_lines, mentions, once_each, lines_refusal, refusal_read, file_refusal}
use Rattle.book_file.specs.FileText.{place_fields, fields_for, file_of}
use Rattle.book_file.specs.BookFileFormsLaws.{LineFits, file_fits}
use Rattle.book_file.specs.OrderLaws.{one_line_lem}
use Rattle.book_file.specs.CallLaws.{entries_below, lines_missed}
use Rattle.book_file.specs.OneFileLaws.{file_text}
use Rattle.bits.specs.SumLaws.{sum_same}
use Rattle.listing_text.specs.Cut.{longest_job, longest_book}
use Rattle.listing_job.specs.Job.{Job, bounds, one_line, job_in}
use Rattle.listing_job.specs.JobForms.{Numbers, no_number, number}
use Rattle.listing_job.specs.JobLaws.{job_numbers}

-- ---- a book file
-- the longest line of an entry: its name and position, and two numbers of five digits
abbrev line_most : ℕ → ℕ
line_most e = fields_size (place_fields file_tables e) + 12

line_long : (l : Line) → LineFits l → length (line_of (fields_for l)) ≤ line_most l.entry
unfolding fields_for fields_size
line_long l fit = go (place_fields file_tables l.entry)
  where
    a : List ℕ
    a = decimal l.long

    b : List ℕ
    b = decimal l.value

    size : (fs : List (List ℕ)) → length (line_of (fs ++ (a ∷ b ∷ []))) ≡ fields_size (fs ++ (a ∷ b ∷ []))
    size [] = line_size a (b ∷ [])
    size (f ∷ fs) = line_size f (fs ++ (a ∷ b ∷ []))

    last : fields_size (a ∷ b ∷ []) ≤ 12
    last = omega (arith, decimal_few 5 l.long (omega (arith, fit.long_le)) (omega arith), decimal_few 5 l.value (omega (arith, fit.value_le)) (omega arith))

    go : (fs : List (List ℕ)) → length (line_of (fs ++ (a ∷ b ∷ []))) ≤ fields_size fs + 12
    go fs = omega (arith, size fs, append_size fs (a ∷ b ∷ []), last)

-- a number for each line
unfoldable each_line : (ℕ → ℕ) → List Line → ℕ
each_line f [] = 0
each_line f (l ∷ ls) = f l.entry + each_line f ls

file_long : (ls : List Line) → All LineFits ls → length (file_of ls) ≤ each_line line_most ls
unfolding file_of each_line
file_long [] fit = omega arith
file_long (l ∷ ls) fit = omega (arith, length-append (line_of (fields_for l)) (file_of ls), line_long l fit.0, file_long ls fit.1)

-- the same entry after entry
module _ (f m : ℕ → ℕ) (a : ℕ) where
  abbrev with : ℕ → ℕ
  with e = (pick (eqb a e) 1 0 + m e) * f e

  not_there : (n : ℕ) → n ≤ a → sum with n ≡ sum (λ e. m e * f e) n
  unfolding sum
  not_there zero h = refl
  not_there (suc n) h = rw (not_there n (omega arith), ne_eqb a n (λ q. omega arith)) (ap (λ (x : ℕ). sum (λ e. m e * f e) n + x * f n) (zero-add (m n)))

  there : (n : ℕ) → a < n → sum with n ≡ f a + sum (λ e. m e * f e) n
  unfolding sum
  there zero h = absurd (omega arith)
  there (suc n) h = go (eqb a n) refl (there n)
    where
      go : (b : Bool) → eqb a n ≡ b → (a < n → sum with n ≡ f a + sum (λ e. m e * f e) n) → sum with n + (pick b 1 0 + m n) * f n ≡ f a + (sum (λ e. m e * f e) n + m n * f n)
      go true q next =
          let is : a ≡ n = eqb-true a n q in
          omega (arith, not_there n (omega arith), add-mul 1 (m n) (f n), ap f is)
      go false q next = let z : 0 + m n ≡ m n = omega arith in rw z (omega (arith, next (omega (arith, eqb-false a n q))))

each_counted : (f : ℕ → ℕ) (ls : List Line) (n : ℕ) → All (λ l. l.entry < n) ls → each_line f ls ≡ sum (λ e. mentions e ls * f e) n
unfolding each_line mentions sum
each_counted f [] n h = sym (none_counted n)
  where
    none_counted : (n : ℕ) → sum (λ e. 0 * f e) n ≡ 0
    none_counted zero = refl
    none_counted (suc n) = omega (arith, none_counted n)
each_counted f (l ∷ ls) n h = omega (arith, each_counted f ls n h.1, there f (λ e. mentions e ls) l.entry n h.0)

-- the longest lines of all entries, once each
all_lines : sum line_most book_entries ≡ longest_book
unfolding sum fields_size place_fields decimal digits_before
all_lines = refl

lines_short : (ls : List Line) → All LineFits ls → once_each book_entries 0 ls ≡ true → length (file_of ls) ≤ longest_book
lines_short ls fit once =
    let counted = each_counted line_most ls book_entries (entries_below ls fit) in
    let all : sum (λ e. mentions e ls * line_most e) book_entries ≡ sum line_most book_entries =
    sum_same (λ e. mentions e ls * line_most e) line_most book_entries (λ i h. rw (one_line_lem ls once i h) (omega arith)) in
    omega (arith, file_long ls fit, counted, all, all_lines)

-- a file that is longer is refused by 5
pub book_short : (file : List ℕ) → (file_refusal file ≡ 5 → ⊥) → length file ≤ longest_book
unfolding file_refusal
book_short file h = go (file_lines file) refl h
  where
    once : (ls : List Line) → (lines_refusal ls ≡ 5 → ⊥) → once_each book_entries 0 ls ≡ true
    once ls k = two (once_each book_entries 0 ls) refl
      where
        two : (b : Bool) → once_each book_entries 0 ls ≡ b → once_each book_entries 0 ls ≡ true
        two true q = q
        two false q = absurd (k (lines_missed ls q))

    go : (o : Option (List Line)) → file_lines file ≡ o → (refusal_read o ≡ 5 → ⊥) → length file ≤ longest_book
    go None q k = absurd (k refl)
    go (Some ls) q k = rw (file_text file ls q) (lines_short ls (file_fits file ls q) (once ls k))

-- ---- a job line
-- a bound is below 10^k, where k digits are written for it
abbrev whole : ℕ → Bool
whole m = ltb 0 (length (decimal m)) && ltb m (10 ^ length (decimal m))

all_whole : List ℕ → Bool
all_whole [] = true
all_whole (m ∷ ms) = whole m && all_whole ms

-- a number is no longer than its bound
field_long : (m v : ℕ) (w : List ℕ) → whole m ≡ true → number_up_to m w ≡ Some v → length w ≤ length (decimal m)
field_long m v w h q =
    let two = both_true (ltb 0 (length (decimal m))) (ltb m (10 ^ length (decimal m))) h in
    let below : v < 10 ^ length (decimal m) = lt_of_le_of_lt (number_le m v w q) (ltb-true m (10 ^ length (decimal m)) two.1) in
    let within : v < 10 ^ 20 = lt_of_lt_of_le below (pow-le-pow_right (lit< tt) (decimal_most m)) in
    rw (number_decimal m v w q within) (decimal_few (length (decimal m)) v below (ltb-true 0 (length (decimal m)) two.0))

fields_long : {ms ns : List ℕ} {fs : List (List ℕ)} → Numbers ms fs ns → all_whole ms ≡ true → fields_size fs ≤ fields_size (map decimal ms)
unfolding fields_size all_whole
fields_long no_number h = omega arith
fields_long (number {m} {n} {f} {ms} e rest) h =
    let two = both_true (whole m) (all_whole ms) h in
    omega (arith, field_long m n f two.0 e, fields_long rest two.1)

-- so the longest line is that of the bounds
numbers_long : {ns : List ℕ} {fs : List (List ℕ)} → Numbers bounds fs ns → length (line_of fs) ≤ longest_job
unfolding fields_size all_whole decimal digits_before
numbers_long (number {f} {fs} e rest) = omega (arith, line_size f fs, fields_long (number e rest) refl)

-- one that is longer has another form
pub job_short : (t : List ℕ) (j : Job) → job_in t ≡ Some j → length t ≤ longest_job
unfolding job_in ended line_of
job_short t j q = go (lines_of t) refl q
  where
    go : (o : Option (List (List ℕ))) → lines_of t ≡ o → one_line o ≡ Some j → length t ≤ longest_job
    go None e k = none_some k
    go (Some []) e k = none_some k
    go (Some (l ∷ [])) e k = rw (lines_ended t (l ∷ []) e) (rw (joined_fields l) at (numbers_long (job_numbers (fields_of l) j k).1))
    go (Some (l ∷ (m ∷ ms))) e k = none_some k
