-- Laws of a whole book file: what a scan leaves decides the refusals, and holds the book. Assumes nothing.
use Rattle.std.specs.Prelude.{ℕ, zero, suc, ◌+◌, ◌<◌, ◌≡◌, Bool, true, false, List, [], ◌∷◌, eqb, length, get_or, replicate, Option, None, Some}
use Rattle.std.proofs.Math.Path.{refl, sym}
use Rattle.std.proofs.Common.{ap, ◌∙◌, arith}
use Rattle.std.proofs.lemmas.List.{length-replicate}
use borrow.Author.Tests.{eq-eqb, ne_eqb}
use Rattle.bits.specs.Basics.{All, unless}
use Rattle.bits.specs.declared.refusal.Refusal.{Refusal}
use Rattle.bits.specs.Refusals.{number_of}
use Rattle.bits.specs.CallsLaws.{refusal_met}
use Rattle.bits.specs.BasicsLaws.{or_next, first_met, first_passed, first_last}
use Rattle.text.specs.TextLaws.{none_some}
use Rattle.text.specs.PutLaws.{put_over}
use Rattle.book.specs.Book.{book_entries, book_bytes, codes_refusal, book_refusal}
use Rattle.book_file.specs.BookFile.{Line, once_each, in_order, book_of, lines_refusal, refusal_read, file_lines, file_refusal, file_book}
use Rattle.book_file.specs.BookFileForms.{BookHeld, Unmet, begun, FileHeld, BookFileRead, read_file_refusal, read_file_book, scan_lines, scanned, all_met}
use Rattle.book_file.specs.BookFileFormsLaws.{LineFits, file_fits}
use Rattle.book_file.specs.HeldLaws.{held_of, scan_ordered, scan_length, scan_bytes, scan_met, Doubled, scan_doubled, once_is}
use Rattle.book_file.specs.OrderLaws.{one_line_lem, order_length, codes_good, held_length, held_book, held_codes}

-- ---- the refusals of lines in their order
module _ (ls : List Line) where
  -- 5
  pub lines_missed : once_each book_entries 0 ls ≡ false → lines_refusal ls ≡ 5
  unfolding lines_refusal
  lines_missed e = sym (first_met 5 _ _ (rw e) (λ z. omega arith))

  module _ (once : once_each book_entries 0 ls ≡ true) where
    -- 30
    pub lines_moved : in_order 0 ls ≡ false → lines_refusal ls ≡ 30
    unfolding lines_refusal
    lines_moved e = sym (first_passed 30 _ _ (rw once) (first_met 30 _ _ (rw e) (λ z. omega arith)))

    -- 6 and 7
    pub lines_codes : in_order 0 ls ≡ true → lines_refusal ls ≡ codes_refusal (book_of ls)
    unfolding lines_refusal
    lines_codes e = sym (first_passed _ _ _ (rw once) (first_passed _ _ _ (rw e) (first_last _ _ refl)))

-- codes of a book of the right size are refused as it is
pub book_codes : (book : List ℕ) → length book ≡ book_bytes → book_refusal book ≡ codes_refusal book
unfolding book_refusal
book_codes book h = or_next (unless (eqb (length book) book_bytes) 5) (codes_refusal book) (rw (eq-eqb (length book) book_bytes h))

pub entries_below : (ls : List Line) → All LineFits ls → All (λ l. l.entry < book_entries) ls
entries_below [] fit = tt
entries_below (l ∷ ls) fit = (fit.0.entry_below, entries_below ls fit.1)

-- a book's lines in order are as many as its entries
pub whole_length : (ls : List Line) → All LineFits ls → once_each book_entries 0 ls ≡ true → in_order 0 ls ≡ true → length ls ≡ book_entries
whole_length ls fit once o = order_length ls once o (entries_below ls fit)

-- ---- what a scan from the start says of lines
zeros_at : (n k : ℕ) → ◌≡◌ {A = ℕ} (get_or (replicate n 0) k 0) 0
zeros_at zero k = refl
zeros_at (suc n) zero = refl
zeros_at (suc n) (suc k) = zeros_at n k

pub unmet_at_first : (met : List ℕ) → met ≡ replicate book_entries 0 → Unmet met
unmet_at_first met e = record { size = rw e (length-replicate {A = ℕ} book_entries 0); zeros = λ k. rw e (zeros_at book_entries k) }

module _ (ls : List Line) (book met : List ℕ) (fresh : Unmet met) where
  -- a line doubled
  stopped : scan_lines 0 ls (begun book met) ≡ None → lines_refusal ls ≡ 5
  stopped q = go (once_each book_entries 0 ls) refl
    where
      d : Doubled met ls
      d = scan_doubled 0 ls (begun book met) q

      go : (b : Bool) → once_each book_entries 0 ls ≡ b → lines_refusal ls ≡ 5
      go true e = absurd (omega (arith, d.twice, d.below, fresh.size, fresh.zeros d.entry, one_line_lem ls e d.entry (omega (arith, d.below, fresh.size))))
      go false e = lines_missed ls e

  module _ (t : BookHeld) (q : scan_lines 0 ls (begun book met) ≡ Some t) where
    -- each entry has one line where each is marked at the end
    scan_once : once_each book_entries 0 ls ≡ all_met t.met
    scan_once =
        once_is t.met book_entries 0 ls (scan_length 0 ls (begun book met) t q ∙ fresh.size)
        (λ k h. let z : 0 + k ≡ k = omega arith in rw z (scan_met 0 ls (begun book met) t k q (omega (arith, fresh.size)) ∙ omega (arith, fresh.zeros k)))

    module _ (Met-all : all_met t.met ≡ true) where
      once : once_each book_entries 0 ls ≡ true
      once = scan_once ∙ Met-all

      order : in_order 0 ls ≡ t.ordered
      order = sym (scan_ordered 0 ls (begun book met) t q)

      module _ (fit : All LineFits ls) (size : length book ≡ book_bytes) (ordered : t.ordered ≡ true) where
        many : length ls ≡ book_entries
        many = whole_length ls fit once (order ∙ ordered)

        -- the book at the end
        held : t.book ≡ held_of ls
        held =
            scan_bytes 0 ls (begun book met) t q (order ∙ ordered) (omega (arith, many, size))
            ∙ put_over book (held_of ls) (omega (arith, held_length ls, many, size))

        held_size : length t.book ≡ book_bytes
        held_size = ap length held ∙ omega (arith, held_length ls, many)

        -- it is refused as the lines are
        scan_refused : lines_refusal ls ≡ book_refusal t.book
        scan_refused = lines_codes ls once (order ∙ ordered) ∙ sym (book_codes t.book held_size ∙ ap codes_refusal held ∙ held_codes ls)

        -- and where they pass it is theirs
        scan_book : lines_refusal ls ≡ 0 → t.book ≡ book_of ls
        scan_book z = held ∙ held_book ls (codes_good (book_of ls) (sym (lines_codes ls once (order ∙ ordered)) ∙ z))

-- ---- of a file
module _ (file book met : List ℕ) (fresh : Unmet met) where
  -- a line malformed or doubled
  pub file_stopped : scanned 0 (file_lines file) (begun book met) ≡ None → file_refusal file ≡ 5
  unfolding file_refusal
  file_stopped = go (file_lines file)
    where
      go : (o : Option (List Line)) → scanned 0 o (begun book met) ≡ None → refusal_read o ≡ 5
      go None q = refl
      go (Some ls) q = stopped ls book met fresh q

  module _ (t : BookHeld) (q : scanned 0 (file_lines file) (begun book met) ≡ Some t) where
    -- a line missing
    pub file_missing : all_met t.met ≡ false → file_refusal file ≡ 5
    unfolding file_refusal
    file_missing m = go (file_lines file) q
      where
        go : (o : Option (List Line)) → scanned 0 o (begun book met) ≡ Some t → refusal_read o ≡ 5
        go None p = refl
        go (Some ls) p = lines_missed ls (scan_once ls book met fresh t p ∙ m)

    -- another order
    pub file_moved : all_met t.met ≡ true → t.ordered ≡ false → file_refusal file ≡ 30
    unfolding file_refusal
    file_moved m o = go (file_lines file) q
      where
        go : (p : Option (List Line)) → scanned 0 p (begun book met) ≡ Some t → refusal_read p ≡ 30
        go None p = none_some p
        go (Some ls) p = lines_moved ls (once ls book met fresh t p m) (order ls book met fresh t p m ∙ o)

    -- the book that the lines hold, refused as a lent one is
    pub file_whole : length book ≡ book_bytes → all_met t.met ≡ true → t.ordered ≡ true → FileHeld file (book_refusal t.book) t.book
    unfolding file_refusal file_book
    file_whole h m o = go (file_lines file) refl q
      where
        go : (p : Option (List Line)) → file_lines file ≡ p → scanned 0 p (begun book met) ≡ Some t → FileHeld file (book_refusal t.book) t.book
        go None e p = none_some p
        go (Some ls) e p =
            let fit = file_fits file ls e in
            let is : lines_refusal ls ≡ book_refusal t.book = scan_refused ls book met fresh t p m fit h o in
            record { refusal = rw e (sym is); held = λ z. rw e (scan_book ls book met fresh t p m fit h o (is ∙ z)) }

-- ---- the call
-- a lent book of another size
pub call_size : (file book : List ℕ) → (length book ≡ book_bytes → ⊥) → BookFileRead file book 5 book
unfolding read_file_book read_file_refusal
call_size file book n = let e = ne_eqb (length book) book_bytes n in record { refusal = rw e; book_after = rw e }

module _ (file book : List ℕ) (size : length book ≡ book_bytes) where
  called : read_file_refusal file (length book) ≡ file_refusal file
  unfolding read_file_refusal
  called = rw (eq-eqb (length book) book_bytes size)

  pub call_refused : (r : ℕ) → r ≡ file_refusal file → (r ≡ 0 → ⊥) → BookFileRead file book r book
  unfolding read_file_book
  call_refused r e n =
      let same : read_file_refusal file (length book) ≡ r = called ∙ sym e in
      record { refusal = sym same; book_after = rw (same, ne_eqb r 0 n) }

  -- the same, with the refusal itself
  pub call_refused_by : (r : Refusal) → number_of r ≡ file_refusal file → BookFileRead file book (number_of r) book
  call_refused_by r e = call_refused (number_of r) e (refusal_met r (number_of r) refl)

  pub call_read : (after : List ℕ) → 0 ≡ file_refusal file → after ≡ file_book file → BookFileRead file book 0 after
  unfolding read_file_book
  call_read after e b =
      let same : read_file_refusal file (length book) ≡ 0 = called ∙ sym e in
      record { refusal = sym same; book_after = rw same b }
