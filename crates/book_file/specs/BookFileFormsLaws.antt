-- Laws of reading a book file line after line. Assumes nothing.
use Rattle.std.specs.Prelude.{ℕ, suc, ◌+◌, ◌≤◌, ◌<◌, ◌≡◌, refl, Bool, true, false, ◌&&◌, List, [], ◌∷◌, eqb, ltb, length, take, drop, get_or, set, Option, None, Some}
use Rattle.std.proofs.Common.{sym, ◌∙◌, add-one, arith, lit≤, length-drop, drop_of_length-le, drop-cons, drop-drop, ltb-true, ltb-false}
use Rattle.std.specs.List.{list_all}
use Rattle.bits.specs.Basics.{pick, every, All}
use Rattle.bits.specs.BasicsLaws.{part_from, part_from_lem}
use Rattle.text.specs.Text.{comma, line_feed, fields_of, lines_of, same}
use Rattle.text.specs.ReadingForms.{count_before, line_before}
use Rattle.text.specs.TextLaws.{none_some, number_le, count_le, some_piece, pieces_last, pieces_next, lines_none, lines_open, lines_next}
use Rattle.text.specs.WritingFormsLaws.{number_comma}
use Rattle.book.specs.Book.{book_entries}
use Rattle.book_file.specs.BookFile.{Table, Line, file_tables, entry_named, line_number, line_at, entry_field, line_read, onto_lines, lines_read, of_lines, file_lines}
use Rattle.book_file.specs.BookFileForms.{BookHeld, file_code_at, place_at, with_entry, kept, scan_lines, scanned}

-- ---- a line's fields from the front
line_place : (t : List ℕ) (fs : List (List ℕ)) → line_read (t ∷ fs) ≡ place_at t fs
unfolding line_read place_at file_code_at
line_place t [] = refl
line_place t (p ∷ []) = refl
line_place t (p ∷ (n ∷ [])) = refl
line_place t (p ∷ (n ∷ (v ∷ []))) = refl
line_place t (p ∷ (n ∷ (v ∷ (x ∷ xs)))) = refl

code-none : (fs : List (List ℕ)) → file_code_at None fs ≡ None
unfolding file_code_at
code-none [] = refl
code-none (n ∷ []) = refl
code-none (n ∷ (v ∷ [])) = refl
code-none (n ∷ (v ∷ (x ∷ xs))) = refl

-- the first field, and those of what stands behind its comma
fields_next : (t : List ℕ) (a : ℕ) → a ≡ count_before comma t → a < length t → fields_of t ≡ take a t ∷ fields_of (part_from (a + 1) t)
unfolding fields_of
fields_next t a e h = rw (part_from_lem, e) (pieces_next comma t (rw e at h))

-- no comma: one field
fields_last : (t : List ℕ) (a : ℕ) → a ≡ count_before comma t → length t ≤ a → fields_of t ≡ t ∷ []
unfolding fields_of
fields_last t a e h = pieces_last comma t (omega (arith, count_le comma t))

-- a line with no comma
pub line_short : (t : List ℕ) (a : ℕ) → a ≡ count_before comma t → length t ≤ a → line_read (fields_of t) ≡ None
unfolding line_read
line_short t a e h = rw (fields_last t a e h)

-- a line's name, and what stands behind its comma
pub line_first : (t : List ℕ) (a : ℕ) → a ≡ count_before comma t → a < length t → line_read (fields_of t) ≡ place_at (take a t) (fields_of (part_from (a + 1) t))
line_first t a e h = rw (fields_next t a e h) (line_place (take a t) (fields_of (part_from (a + 1) t)))

-- no second comma
pub place_short : (name u : List ℕ) (b : ℕ) → b ≡ count_before comma u → length u ≤ b → place_at name (fields_of u) ≡ None
unfolding place_at file_code_at
place_short name u b e h = rw (fields_last u b e h)

-- a position, and what stands behind its comma
pub place-first : (name u : List ℕ) (b : ℕ) → b ≡ count_before comma u → b < length u
    → place_at name (fields_of u) ≡ file_code_at (entry_field name (line_number (take b u))) (fields_of (part_from (b + 1) u))
unfolding place_at
place-first name u b e h = rw (fields_next u b e h)

-- a name or a position that means no entry
pub place_none : (name u : List ℕ) (b : ℕ) → b ≡ count_before comma u → b < length u → entry_field name (line_number (take b u)) ≡ None
    → place_at name (fields_of u) ≡ None
place_none name u b e h n = place-first name u b e h ∙ rw n (code-none (fields_of (part_from (b + 1) u)))

-- no third comma
pub code_short : (e : Option ℕ) (u : List ℕ) (a : ℕ) → a ≡ count_before comma u → length u ≤ a → file_code_at e (fields_of u) ≡ None
unfolding file_code_at
code_short e u a q h = rw (fields_last u a q h)

some_field : (t : List ℕ) → 0 < length (fields_of t)
unfolding fields_of
some_field t = some_piece comma t

many : (e : Option ℕ) (n v : List ℕ) (fs : List (List ℕ)) → 0 < length fs → file_code_at e (n ∷ (v ∷ fs)) ≡ None
unfolding file_code_at
many e n v [] h = absurd (omega arith)
many e n v (x ∷ xs) h = refl

-- a fourth comma
pub code_long : (e : Option ℕ) (u : List ℕ) (a b : ℕ) → a ≡ count_before comma u → a < length u
    → b ≡ count_before comma (part_from (a + 1) u) → b < length (part_from (a + 1) u) → file_code_at e (fields_of u) ≡ None
code_long e u a b q h p k =
    let v : List ℕ = part_from (a + 1) u in
    rw (fields_next u a q h, fields_next v b p k) (many e (take a u) (take b v) (fields_of (part_from (b + 1) v)) (some_field (part_from (b + 1) v)))

-- a length and a code
pub code_two : (e : Option ℕ) (u : List ℕ) (a b : ℕ) → a ≡ count_before comma u → a < length u
    → b ≡ count_before comma (part_from (a + 1) u) → length (part_from (a + 1) u) ≤ b
    → file_code_at e (fields_of u) ≡ line_at e (line_number (take a u)) (line_number (part_from (a + 1) u))
unfolding file_code_at
code_two e u a b q h p k = rw (fields_next u a q h, fields_last (part_from (a + 1) u) b p k)

line-none : (e : ℕ) (o : Option ℕ) → line_at (Some e) o None ≡ None
line-none e None = refl
line-none e (Some n) = refl

-- a length and what stands behind its comma, which is no code where a comma is in it
pub code_both : (e : ℕ) (u : List ℕ) (a : ℕ) → a ≡ count_before comma u → a < length u
    → file_code_at (Some e) (fields_of u) ≡ line_at (Some e) (line_number (take a u)) (line_number (part_from (a + 1) u))
code_both e u a q h = go (ltb (count_before comma v) (length v)) refl
  where
    v : List ℕ
    v = part_from (a + 1) u

    go : (b : Bool) → ltb (count_before comma v) (length v) ≡ b → file_code_at (Some e) (fields_of u) ≡ line_at (Some e) (line_number (take a u)) (line_number v)
    go true k =
        let more : count_before comma v < length v = ltb-true (count_before comma v) (length v) k in
        code_long (Some e) u a (count_before comma v) q h refl more ∙ sym (rw (number_comma 65535 v more) (line-none e (line_number (take a u))))
    go false k = code_two (Some e) u a (count_before comma v) q h refl (ltb-false (count_before comma v) (length v) k)

-- ---- what a line can say
-- each table lies in the book
tables_fit : All (λ t. t.from + t.size ≤ book_entries) file_tables
tables_fit = (lit≤ tt, (lit≤ tt, (lit≤ tt, (lit≤ tt, (lit≤ tt, (lit≤ tt, tt))))))

named_below : (ts : List Table) (name : List ℕ) (p e : ℕ) → All (λ t. t.from + t.size ≤ book_entries) ts → entry_named ts name p ≡ Some e → e < book_entries
unfolding entry_named
named_below [] name p e fit q = none_some q
named_below (t ∷ ts) name p e fit q = go (same t.name name) (ltb p t.size) refl (named_below ts name p e fit.1) q
  where
    go : (a b : Bool) → ltb p t.size ≡ b → (entry_named ts name p ≡ Some e → e < book_entries)
        → pick a (pick b (Some (t.from + p)) None) (entry_named ts name p) ≡ Some e → e < book_entries
    go true true k next h = let v : t.from + p ≡ e = cc in omega (arith, ltb-true p t.size k, fit.0)
    go true false k next h = none_some h
    go false b k next h = next h

field_below : (name : List ℕ) (o : Option ℕ) (e : ℕ) → entry_field name o ≡ Some e → e < book_entries
field_below name None e q = none_some q
field_below name (Some p) e q = named_below file_tables name p e tables_fit q

-- what is known of a line that was read
pub record LineFits (l : Line) : Type 0 where
  pub entry_below : l.entry < book_entries
  pub long_le : l.long ≤ 65535
  pub value_le : l.value ≤ 65535

at_fits : (o m k : Option ℕ) (l : Line) → ((e : ℕ) → o ≡ Some e → e < book_entries) → ((n : ℕ) → m ≡ Some n → n ≤ 65535) → ((v : ℕ) → k ≡ Some v → v ≤ 65535)
    → line_at o m k ≡ Some l → LineFits l
at_fits None m k l ho hm hk q = none_some q
at_fits (Some e) None k l ho hm hk q = none_some q
at_fits (Some e) (Some n) None l ho hm hk q = none_some q
at_fits (Some e) (Some n) (Some v) l ho hm hk q =
    let w : record { entry = e; long = n; value = v } ≡ l = cc in
    record { entry_below = rw (← w) (ho e refl); long_le = rw (← w) (hm n refl); value_le = rw (← w) (hk v refl) }

pub line_fits : (fs : List (List ℕ)) (l : Line) → line_read fs ≡ Some l → LineFits l
unfolding line_read
line_fits [] l q = none_some q
line_fits (t ∷ []) l q = none_some q
line_fits (t ∷ (p ∷ [])) l q = none_some q
line_fits (t ∷ (p ∷ (n ∷ []))) l q = none_some q
line_fits (t ∷ (p ∷ (n ∷ (v ∷ [])))) l q =
    at_fits (entry_field t (line_number p)) (line_number n) (line_number v) l (field_below t (line_number p)) (λ m e. number_le 65535 m n e)
    (λ m e. number_le 65535 m v e) q
line_fits (t ∷ (p ∷ (n ∷ (v ∷ (x ∷ xs))))) l q = none_some q

-- of every line of a file
onto-fits : (a : Option Line) (b : Option (List Line)) (ls : List Line) → ((l : Line) → a ≡ Some l → LineFits l) → ((ms : List Line) → b ≡ Some ms → All LineFits ms)
    → onto_lines a b ≡ Some ls → All LineFits ls
onto-fits None b ls f g q = none_some q
onto-fits (Some l) None ls f g q = none_some q
onto-fits (Some l) (Some ms) ls f g q = let w : l ∷ ms ≡ ls = cc in rw (← w) (f l refl, g ms refl)

lines_fit : (ts : List (List ℕ)) (ls : List Line) → lines_read ts ≡ Some ls → All LineFits ls
unfolding lines_read
lines_fit [] ls q = let w : [] ≡ ls = cc in rw (← w) tt
lines_fit (t ∷ ts) ls q = onto-fits (line_read (fields_of t)) (lines_read ts) ls (λ l e. line_fits (fields_of t) l e) (λ ms e. lines_fit ts ms e) q

pub file_fits : (file : List ℕ) (ls : List Line) → file_lines file ≡ Some ls → All LineFits ls
unfolding file_lines
file_fits file ls = go (lines_of file)
  where
    go : (o : Option (List (List ℕ))) → of_lines o ≡ Some ls → All LineFits ls
    go None q = none_some q
    go (Some ts) q = lines_fit ts ls q

-- ---- a file's lines from the front
onto-none : (o : Option Line) → onto_lines o None ≡ None
onto-none None = refl
onto-none (Some l) = refl

pub onto_before : (l : List ℕ) (o : Option (List (List ℕ))) → of_lines (line_before l o) ≡ onto_lines (line_read (fields_of l)) (of_lines o)
unfolding lines_read
onto_before l None = sym (onto-none (line_read (fields_of l)))
onto_before l (Some ls) = refl

file_next : (t : List ℕ) (n : ℕ) → n ≡ count_before line_feed t → n < length t → file_lines t ≡ onto_lines (line_read (fields_of (take n t))) (file_lines (drop (n + 1) t))
unfolding file_lines
file_next t n e h = rw (e, lines_next t (rw e at h)) (onto_before (take (count_before line_feed t) t) (lines_of (drop (count_before line_feed t + 1) t)))

-- no line is left
pub file_end : (file : List ℕ) (at : ℕ) → length file ≤ at → file_lines (drop at file) ≡ Some []
unfolding file_lines lines_read
file_end file at h = rw (lines_none (drop at file) (omega (arith, length-drop at file)))

-- what is left is not ended
pub file_open : (file : List ℕ) (at n : ℕ) → at < length file → n ≡ count_before line_feed (part_from at file) → length (part_from at file) ≤ n
    → file_lines (drop at file) ≡ None
unfolding file_lines
file_open file at n h =
    rw part_from_lem (λ (e : n ≡ count_before line_feed (drop at file)) (k : length (drop at file) ≤ n).
    rw (lines_open (drop at file) (omega (arith, length-drop at file)) (omega (arith, count_le line_feed (drop at file)))))

module _ (file : List ℕ) (at n : ℕ) (e : n ≡ count_before line_feed (part_from at file)) (h : n < length (part_from at file)) where
  file_step : file_lines (drop at file) ≡ onto_lines (line_read (fields_of (take n (part_from at file)))) (file_lines (drop (at + (n + 1)) file))
  file_step =
      rw (part_from_lem at file, ← drop-drop (n + 1) at file) (file_next (drop at file) n (rw (part_from_lem at file) at e) (rw (part_from_lem at file) at h))

  -- a malformed line
  pub file_bad : line_read (fields_of (take n (part_from at file))) ≡ None → file_lines (drop at file) ≡ None
  file_bad q = file_step ∙ rw q

  -- a line that says something, and the lines behind it
  pub file_line : (l : Line) → line_read (fields_of (take n (part_from at file))) ≡ Some l
      → file_lines (drop at file) ≡ onto_lines (Some l) (file_lines (drop (at + (n + 1)) file))
  file_line l q = file_step ∙ rw q

-- ---- the lines one after the other
pub scan_step : (k : ℕ) (l : Line) (o : Option (List Line)) (s : BookHeld)
    → scanned k (onto_lines (Some l) o) s ≡ pick (eqb (get_or s.met l.entry 0) 0) (scanned (suc k) o (kept k l s)) None
unfolding scan_lines
scan_step k l None s = go (eqb (get_or s.met l.entry 0) 0)
  where
    go : (b : Bool) → ◌≡◌ {A = Option BookHeld} None (pick b None None)
    go true = refl
    go false = refl
scan_step k l (Some ls) s = refl

-- ---- every element of a list, one after the other
pub every-step : (f : ℕ → Bool) (t : List ℕ) (i : ℕ) → i < length t → every f (drop i t) ≡ pick (f (get_or t i 0)) (every f (drop (i + 1) t)) false
unfolding every
every-step f t i h = rw (add-one, drop-cons t i 0 h)

pub every_end : (f : ℕ → Bool) (t : List ℕ) (i : ℕ) → length t ≤ i → every f (drop i t) ≡ true
unfolding every
every_end f t i h = rw (drop_of_length-le t h)

-- std's test of every element
pub every_all : (f : ℕ → Bool) (t : List ℕ) → list_all f t ≡ every f t
unfolding every
every_all f [] = refl
every_all f (x ∷ t) = go (f x) (every_all f t)
  where
    go : (b : Bool) → list_all f t ≡ every f t → (b && list_all f t) ≡ pick b (every f t) false
    go true e = e
    go false e = refl

-- what a line leaves, from what is put and tested for it
pub kept_is : (k : ℕ) (l : Line) (s : BookHeld) (book : List ℕ) (ordered : Bool) → book ≡ with_entry s.book l.entry l.long l.value
    → ordered ≡ (s.ordered && eqb l.entry k) → record { book = book; met = set s.met l.entry 1; ordered = ordered } ≡ kept k l s
unfolding kept
kept_is k l s book ordered hb ho = rw (hb, ho)
