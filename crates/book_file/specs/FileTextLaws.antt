-- Laws of a book file as text: the lines of a file are those that it was made of, and a book's file is the text of its lines. Assumes nothing.
use Prim.Native.Nat.{ℕ, zero, suc, ◌+◌, ◌-◌, ◌≤◌, ◌<◌}
use Rattle.std.specs.Prelude.{◌≡◌, refl, Bool, true, false, T, leb, ltb, Option, None, Some}
use Rattle.std.proofs.Math.Path.{sym, ap}
use Rattle.std.proofs.Common.{◌∙◌, le_refl, lit≤, ltb-true, ltb-false, lt-ltb, le-ltb}
use mathlib.Core.List.{List, [], ◌∷◌, ◌++◌, append_assoc, append-nil}
use native.Mathlib.Omega.{arith}
use Rattle.bits.specs.Basics.{pick, every, All, values_from}
use Rattle.bits.specs.BasicsLaws.{values_more}
use Rattle.text.specs.Text.{comma, line_feed, decimal, joined, line_of, fields_of, lines_of, same}
use Rattle.text.specs.ReadingForms.{without}
use Rattle.text.specs.WritingFormsLaws.{decimal_digits, decimal_back, digits_without, fields_joined, joined-without, lines_joined}
use Rattle.book.specs.Book.{book_entries}
use Rattle.book_file.specs.BookFile.{Table, Line, file_tables, table_line, table_lines, tables_text, book_file, entry_named, line_number, line_read, onto_lines, of_lines, file_lines}
use Rattle.book_file.specs.FileText.{line_for, book_lines, place_fields, fields_for, file_of}
use Rattle.book_file.specs.BookFileFormsLaws.{LineFits, onto_before, file_end}

-- ---- an entry's name and position
record Placed (e : ℕ) (fs : List (List ℕ)) : Type 0 where
  name : List ℕ
  position : ℕ
  are : fs ≡ name ∷ decimal position ∷ []
  means : entry_named file_tables name position ≡ Some e
  small : position ≤ 65535
  no_comma : without comma name ≡ true
  no_feed : without line_feed name ≡ true

-- a table's name is its own, and no separator stands in it
record Own (t : Table) : Type 0 where
  named : (p : ℕ) → entry_named file_tables t.name p ≡ pick (ltb p t.size) (Some (t.from + p)) None
  size_small : t.size ≤ 65535
  name_comma : without comma t.name ≡ true
  name_feed : without line_feed t.name ≡ true

own : {t : Table} → ((p : ℕ) → entry_named file_tables t.name p ≡ pick (ltb p t.size) (Some (t.from + p)) None) → T (leb t.size 65535)
    → without comma t.name ≡ true → without line_feed t.name ≡ true → Own t
own n s c f = record { named = n; size_small = lit≤ s; name_comma = c; name_feed = f }

tables_own : All Own file_tables
unfolding entry_named same every
tables_own = (
  own (λ p. refl) tt refl refl,
  (
    own (λ p. refl) tt refl refl,
    (
      own (λ p. refl) tt refl refl,
      (own (λ p. refl) tt refl refl, (own (λ p. refl) tt refl refl, (own (λ p. refl) tt refl refl, tt))),
    ),
  ),
)

-- the tables stand one behind the other from entry s to the book's last
abbrev pub Follow : ℕ → List Table → Type 0
Follow s [] = s ≡ book_entries
Follow s (t ∷ ts) = (t.from ≡ s) × Follow (t.from + t.size) ts

pub tables_follow : Follow 0 file_tables
tables_follow = (refl, (refl, (refl, (refl, (refl, (refl, refl))))))

placed_in : (ts : List Table) (s e : ℕ) → Follow s ts → All Own ts → s ≤ e → e < book_entries → Placed e (place_fields ts e)
unfolding place_fields
placed_in [] s e f own h k = absurd (omega arith)
placed_in (t ∷ ts) s e f own h k = go (ltb e (t.from + t.size)) refl (λ i. placed_in ts (t.from + t.size) e f.1 own.1 i k)
  where
    go : (b : Bool) → ltb e (t.from + t.size) ≡ b → (t.from + t.size ≤ e → Placed e (place_fields ts e))
        → Placed e (pick b (t.name ∷ decimal (e - t.from) ∷ []) (place_fields ts e))
    go true q next =
        let below = ltb-true e (t.from + t.size) q in
        let back : t.from + (e - t.from) ≡ e = omega (arith, f.0) in
        record {
          name = t.name;
          position = e - t.from;
          are = refl;
          means = own.0.named (e - t.from) ∙ rw (lt-ltb (e - t.from) t.size (omega (arith, f.0)), back);
          small = omega (arith, own.0.size_small);
          no_comma = own.0.name_comma;
          no_feed = own.0.name_feed;
        }
    go false q next = next (ltb-false e (t.from + t.size) q)

placed : (e : ℕ) → e < book_entries → Placed e (place_fields file_tables e)
placed e h = placed_in file_tables 0 e tables_follow tables_own (omega arith) h

-- ---- a line is read back
number_back : (n : ℕ) → n ≤ 65535 → line_number (decimal n) ≡ Some n
number_back n h = decimal_back 65535 n (omega arith) h

decimal-comma : (n : ℕ) → without comma (decimal n) ≡ true
decimal-comma n = digits_without comma (decimal n) refl (decimal_digits n)

decimal_feed : (n : ℕ) → without line_feed (decimal n) ≡ true
decimal_feed n = digits_without line_feed (decimal n) refl (decimal_digits n)

fields_are : (l : Line) (p : Placed l.entry (place_fields file_tables l.entry))
    → fields_for l ≡ p.name ∷ decimal p.position ∷ decimal l.long ∷ decimal l.value ∷ []
unfolding fields_for
fields_are l p = rw p.are

line_back : (l : Line) → LineFits l → line_read (fields_of (joined (fields_for l))) ≡ Some l
unfolding line_read
line_back l f =
    let p = placed l.entry f.entry_below in
    let apart = fields_joined p.name (decimal p.position ∷ decimal l.long ∷ decimal l.value ∷ [])
    (p.no_comma, (decimal-comma p.position, (decimal-comma l.long, (decimal-comma l.value, tt)))) in
    rw (fields_are l p, apart, number_back p.position p.small, p.means, number_back l.long f.long_le, number_back l.value f.value_le)

line_feed_lem : (l : Line) → LineFits l → without line_feed (joined (fields_for l)) ≡ true
line_feed_lem l f =
    let p = placed l.entry f.entry_below in
    rw (fields_are l p) (joined-without (p.name ∷ decimal p.position ∷ decimal l.long ∷ decimal l.value ∷ [])
    (p.no_feed, (decimal_feed p.position, (decimal_feed l.long, (decimal_feed l.value, tt)))))

-- ---- the lines of a file are those that it was made of
file_front : (l : Line) (t : List ℕ) → LineFits l → file_lines (line_of (fields_for l) ++ t) ≡ onto_lines (Some l) (file_lines t)
unfolding file_lines line_of
file_front l t f =
    rw (append_assoc, lines_joined (joined (fields_for l)) t (line_feed_lem l f))
    (onto_before (joined (fields_for l)) (lines_of t) ∙ ap (λ (o : Option Line). onto_lines o (of_lines (lines_of t))) (line_back l f))

pub file_back : (ls : List Line) → All LineFits ls → file_lines (file_of ls) ≡ Some ls
unfolding file_of
file_back [] f = file_end [] 0 (omega arith)
file_back (l ∷ ls) f = file_front l (file_of ls) f.0 ∙ rw (file_back ls f.1)

-- ---- a book's file is the text of its lines
file_append : (ls ms : List Line) → file_of (ls ++ ms) ≡ file_of ls ++ file_of ms
unfolding file_of
file_append [] ms = refl
file_append (l ∷ ls) ms = rw (file_append ls ms) (sym (append_assoc (line_of (fields_for l)) (file_of ls) (file_of ms)))

one_text : (l : Line) → file_of (l ∷ []) ≡ line_of (fields_for l)
unfolding file_of
one_text l = append-nil (line_of (fields_for l))

no_text_lem : (book : List ℕ) (j : ℕ) → file_of (values_from (line_for book) 0 j) ≡ []
unfolding file_of values_from
no_text_lem book j = refl

-- from entry s on, an entry's name and position are found in the tables ts
abbrev From : ℕ → List Table → Type 0
From s ts = (e : ℕ) → s ≤ e → place_fields file_tables e ≡ place_fields ts e

module _ (book : List ℕ) (t : Table) (ts : List Table) (from : From t.from (t ∷ ts)) where
  -- a line of a table
  table_line_lem : (p : ℕ) → p < t.size → table_line book t p ≡ line_of (fields_for (line_for book (t.from + p)))
  unfolding table_line fields_for place_fields
  table_line_lem p h =
      let back : t.from + p - t.from ≡ p = omega arith in
      let place : place_fields file_tables (t.from + p) ≡ t.name ∷ decimal p ∷ [] =
      from (t.from + p) (omega arith) ∙ rw (lt-ltb (t.from + p) (t.from + t.size) (omega arith), back) in
      rw place

  -- the lines of its first n positions
  table_lines_lem : (n : ℕ) → n ≤ t.size → table_lines book t n ≡ file_of (values_from (line_for book) n t.from)
  unfolding table_lines
  table_lines_lem zero h = sym (no_text_lem book t.from)
  table_lines_lem (suc n) h =
      ap (λ (x : List ℕ). x ++ table_line book t n) (table_lines_lem n (omega arith))
      ∙ ap (λ (x : List ℕ). file_of (values_from (line_for book) n t.from) ++ x) (table_line_lem n (omega arith) ∙ sym (one_text (line_for book (t.from + n))))
      ∙ sym (file_append (values_from (line_for book) n t.from) (line_for book (t.from + n) ∷ []))
      ∙ ap file_of (sym (values_more (line_for book) n t.from))

  -- behind it the others
  from_next : From (t.from + t.size) ts
  unfolding place_fields
  from_next e h = from e (omega arith) ∙ rw (le-ltb e (t.from + t.size) h)

follow_le : (ts : List Table) (s : ℕ) → Follow s ts → s ≤ book_entries
follow_le [] s f = omega arith
follow_le (t ∷ ts) s f = omega (arith, f.0, follow_le ts (t.from + t.size) f.1)

values_append : {A : Type 0} (f : ℕ → A) (n m j : ℕ) → values_from f (n + m) j ≡ values_from f n j ++ values_from f m (j + n)
unfolding values_from
values_append f zero m j = let z : j + 0 ≡ j = omega arith in let y : 0 + m ≡ m = omega arith in rw (y, z)
values_append f (suc n) m j =
    let z : j + suc n ≡ suc j + n = omega arith in
    let y : suc n + m ≡ suc (n + m) = omega arith in
    rw (z, y) (ap (◌∷◌ (f j)) (values_append f n m (suc j)))

tables_lines : (book : List ℕ) (ts : List Table) (s m : ℕ) → Follow s ts → From s ts → s + m ≡ book_entries → tables_text book ts ≡ file_of (values_from (line_for book) m s)
unfolding tables_text
tables_lines book [] s m f from h = let z : m ≡ 0 = omega arith in rw z (sym (no_text_lem book s))
tables_lines book (t ∷ ts) s m f from h =
    let end = follow_le ts (t.from + t.size) f.1 in
    let here : From t.from (t ∷ ts) = λ e i. from e (omega (arith, f.0)) in
    let r : ℕ = m - t.size in
    let more : m ≡ t.size + r = omega (arith, f.0, end) in
    let rest : tables_text book ts ≡ file_of (values_from (line_for book) r (t.from + t.size)) =
    tables_lines book ts (t.from + t.size) r f.1 (from_next book t ts here) (omega (arith, f.0, end)) in
    ap (λ (x : List ℕ). x ++ tables_text book ts) (table_lines_lem book t ts here t.size (le_refl t.size))
    ∙ ap (λ (x : List ℕ). file_of (values_from (line_for book) t.size t.from) ++ x) rest
    ∙ sym (file_append (values_from (line_for book) t.size t.from) (values_from (line_for book) r (t.from + t.size)))
    ∙ ap file_of (sym (values_append (line_for book) t.size r t.from))
    ∙ ap (λ (n : ℕ). file_of (values_from (line_for book) n t.from)) (sym more)
    ∙ ap (λ (j : ℕ). file_of (values_from (line_for book) m j)) f.0

pub file_lines_lem : (book : List ℕ) → book_file book ≡ file_of (book_lines book)
unfolding book_file
file_lines_lem book = tables_lines book file_tables 0 book_entries tables_follow (λ e h. refl) refl
