-- Laws of tables as text. Assumes nothing.
use Rattle.std.specs.Prelude.{ℕ, ◌+◌, ◌≤◌, ◌<◌, ◌≡◌, refl, Bool, true, false, List, [], ◌∷◌, ◌++◌, eqb, leb, take, get_or, Result, Ok, Err}
use Rattle.std.proofs.Math.Path.{sym, ap}
use Rattle.std.proofs.Common.{◌∙◌, append_assoc, append-nil, add-one, arith, take-append-drop, take-suc}
use Rattle.std.proofs.Math.ListN.{length, drop, length-append}
use Rattle.std.proofs.Math.Seq.{length-take-le}
use borrow.Author.Tests.{eq-eqb, le-leb, lt-leb, leb-true, leb-false}
use Rattle.bits.specs.Basics.{pick, signed_of}
use Rattle.bits.specs.BasicsLaws.{first_passed, first_last, unless-none}
use Rattle.bits.specs.declared.refusal.Refusal.{Refusal}
use Rattle.bits.specs.Refusals.{number_of, refused_by}
use Rattle.bits.specs.CallsLaws.{refusal_met, link_met}
use Rattle.text.specs.Text.{line_feed, signed_decimal}
use Rattle.text.specs.WritingForms.{put_text, PutInRoom, text_refusal, bytes_written, TextWritten}
use Rattle.text.specs.PutLaws.{part_put, put_behind, text_refused, text_written, written_told}
use Rattle.book.specs.Book.{codebook_bytes, data_refusal}
use Rattle.book.specs.BookLaws.{data_passes}
use Rattle.house.specs.House.{house_book, house_codebook}
use Rattle.house.specs.HouseLaws.{house_book_lem, length_house_codebook}
use Rattle.book_file.specs.BookFile.{book_file, write_file_refusal}
use Rattle.house_text.specs.HouseText.{number_line, number_lines, tables_printed, print_refusal, house_printed}

-- ---- the lines of a codebook
pub lines_append : (a b : List ℕ) → number_lines (a ++ b) ≡ number_lines a ++ number_lines b
unfolding number_lines
lines_append [] b = refl
lines_append (x ∷ a) b = rw (lines_append a b) (sym (append_assoc (number_line x) (number_lines a) (number_lines b)))

-- one line more
pub lines_more : (codebook : List ℕ) (i : ℕ) → i < length codebook
    → number_lines (take (i + 1) codebook) ≡ number_lines (take i codebook) ++ number_line (get_or codebook i 0)
unfolding number_lines
lines_more codebook i h =
    rw (add-one, take-suc codebook i 0, lines_append (take i codebook) (get_or codebook i 0 ∷ []), append-nil)

-- and its bytes: those of the number and the line feed
pub length_more : (codebook : List ℕ) (i n : ℕ) → i < length codebook → n ≡ length (signed_decimal (signed_of (get_or codebook i 0)))
    → length (number_lines (take (i + 1) codebook)) ≡ length (number_lines (take i codebook)) + (n + 1)
unfolding number_line
length_more codebook i n h e =
    let b = get_or codebook i 0 in
    ap length (lines_more codebook i h)
    ∙ length-append (number_lines (take i codebook)) (number_line b)
    ∙ ap (λ (k : ℕ). length (number_lines (take i codebook)) + k) (length-append (signed_decimal (signed_of b)) (line_feed ∷ []) ∙ ap (λ (k : ℕ). k + 1) (sym e))

-- ---- the call
-- what refuses the tables
pub print_refused : (book codebook out : List ℕ) (e : Refusal) → number_of e ≡ data_refusal book codebook
    → TextWritten (print_refusal book codebook (length out)) (tables_printed book codebook) out (Err e) out
unfolding print_refusal
print_refused book codebook out e h = text_refused _ e _ out (link_met e _ _ h)

module _ (book codebook out : List ℕ) (passes : data_refusal book codebook ≡ 0) where
  -- a slice that is too short
  pub print_short : (e : Refusal) → number_of e ≡ 20 → length out < length (book_file book) + length (number_lines codebook)
      → TextWritten (print_refusal book codebook (length out)) (tables_printed book codebook) out (Err e) out
  unfolding print_refusal tables_printed
  print_short e n h =
      let t = book_file book ++ number_lines codebook in
      let room : number_of e ≡ text_refusal t (length out) = n ∙ sym (rw (lt-leb (length t) (length out) (omega (arith, length-append (book_file book) (number_lines codebook))))) in
      text_refused _ e t out (first_passed (number_of e) _ _ passes (first_last (number_of e) _ room))

  module _ (room : ℕ) (is : room + length (number_lines codebook) ≡ length out) (r : Result ℕ Refusal) (left : List ℕ)
      (file : TextWritten (write_file_refusal book (length (take room out))) (book_file book) (take room out) r left) where
    -- the file's writer refuses nothing but the room
    file_refusal_lem : write_file_refusal book (length (take room out)) ≡ text_refusal (book_file book) room
    unfolding write_file_refusal
    file_refusal_lem =
        let long : length (take room out) ≡ room = length-take-le room out (omega arith) in
        rw long (sym (first_passed _ _ _ (data_passes book codebook passes).1 (first_last _ _ refl)))

    told : (refused_by r ≡ write_file_refusal book (length (take room out))) × (bytes_written r ≡ pick (eqb (write_file_refusal book (length (take room out))) 0) (length (book_file book)) 0)
    told = written_told _ (book_file book) (take room out) r left file

    refused_is : refused_by r ≡ text_refusal (book_file book) room
    refused_is = told.0 ∙ file_refusal_lem

    -- where it does, the text has no room, and the slice is as it was
    pub file_short : (e : Refusal) → r ≡ Err e
        → TextWritten (print_refusal book codebook (length out)) (tables_printed book codebook) out (Err e) (left ++ drop room out)
    file_short e is-err = go (leb (length (book_file book)) room) refl
      where
        met : number_of e ≡ text_refusal (book_file book) room
        met = ap refused_by (sym is-err) ∙ refused_is

        go : (b : Bool) → leb (length (book_file book)) room ≡ b
            → TextWritten (print_refusal book codebook (length out)) (tables_printed book codebook) out (Err e) (left ++ drop room out)
        go true q = absurd (refusal_met e _ met (rw q))
        go false q =
            let same : left ≡ take room out = rw (file_refusal_lem, q) at file.left in
            rw (same, take-append-drop room out) (print_short e (met ∙ rw q) (omega (arith, leb-false (length (book_file book)) room q)))

    -- else the file stands in the whole slice, and the numbers are put behind it
    pub file_then_numbers : (n : ℕ) → r ≡ Ok n → (x : ℕ) (after : List ℕ) → PutInRoom (left ++ drop room out) n (number_lines codebook) x after
        → TextWritten (print_refusal book codebook (length out)) (tables_printed book codebook) out (Ok x) after
    unfolding print_refusal tables_printed
    file_then_numbers n is-ok x after p =
        let h : 0 ≡ text_refusal (book_file book) room = ap refused_by (sym is-ok) ∙ refused_is in
        let fits : length (book_file book) ≤ room = leb-true (length (book_file book)) room (unless-none (leb (length (book_file book)) room) 20 (omega arith) (sym h)) in
        let none : write_file_refusal book (length (take room out)) ≡ 0 = file_refusal_lem ∙ sym h in
        let size : n ≡ 0 + length (book_file book) = ap bytes_written (sym is-ok) ∙ told.1 ∙ rw none (omega arith) in
        let put : left ≡ put_text (take room out) 0 (book_file book) = rw none at file.left in
        let mid : left ++ drop room out ≡ put_text out 0 (book_file book) = rw put (part_put out (book_file book) room fits (omega arith)) in
        let t = book_file book ++ number_lines codebook in
        let long : length t ≤ length out = omega (arith, length-append (book_file book) (number_lines codebook)) in
        let first : PutInRoom out 0 (book_file book) n (left ++ drop room out) = record { next = λ _. size; bytes_after = λ _. mid } in
        text_written _ (sym (first_passed 0 _ _ passes (first_last 0 _ (rw (le-leb (length t) (length out) long))))) long (put_behind first p)

-- ---- the house's text
-- its tables pass, so only the room can refuse it
pub house_refusal : (room : ℕ) → print_refusal house_book house_codebook room ≡ text_refusal house_printed room
unfolding print_refusal house_printed data_refusal
house_refusal room =
    let whole : data_refusal house_book house_codebook ≡ 0 = rw (eq-eqb (length house_codebook) codebook_bytes length_house_codebook) house_book_lem.passes in
    sym (first_passed _ _ _ whole (first_last _ _ refl))

pub house_written : (book codebook out : List ℕ) (r : Result ℕ Refusal) (left : List ℕ) → book ≡ house_book → codebook ≡ house_codebook
    → TextWritten (print_refusal book codebook (length out)) (tables_printed book codebook) out r left → TextWritten (text_refusal house_printed (length out)) house_printed out r left
unfolding house_printed
house_written book codebook out r left b c w = rw (← house_refusal (length out), ← b, ← c) w
