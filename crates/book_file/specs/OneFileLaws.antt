-- A book file has one form: a file whose lines are read is the text of those lines. Assumes nothing.
use Rattle.std.specs.Prelude.{ℕ, ◌+◌, ◌-◌, ◌≤◌, ◌<◌, ◌≡◌, refl, Bool, true, false, List, [], ◌∷◌, ◌++◌, ltb, Option, None, Some}
use Rattle.std.proofs.Common.{sym, ap, ◌∙◌, append_assoc, arith, lt-ltb, le-ltb, ltb-true}
use Rattle.bits.specs.Basics.{pick}
use Rattle.text.specs.Text.{line_feed, decimal, joined, line_of, fields_of, lines_of, same}
use Rattle.text.specs.TextLaws.{none_some, number_le}
use Rattle.text.specs.OneTextLaws.{number_decimal, joined_fields, ended, lines_ended, same_true}
use Rattle.book_file.specs.BookFile.{Table, Line, file_tables, entry_named, line_number, line_at, entry_field, line_read, onto_lines, lines_read, of_lines, file_lines}
use Rattle.book_file.specs.FileText.{place_fields, fields_for, file_of}
use Rattle.book_file.specs.FileTextLaws.{Follow, tables_follow}

-- the name and position that mean an entry are those that it is written with
named_place : (ts : List Table) (s : ℕ) (name : List ℕ) (p e : ℕ) → Follow s ts → entry_named ts name p ≡ Some e
    → (s ≤ e) × (place_fields ts e ≡ name ∷ decimal p ∷ [])
unfolding entry_named place_fields
named_place [] s name p e f q = none_some q
named_place (t ∷ ts) s name p e f q =
    go (same t.name name) refl (ltb p t.size) refl q (named_place ts (t.from + t.size) name p e f.1)
  where
    go : (a : Bool) → same t.name name ≡ a → (b : Bool) → ltb p t.size ≡ b
        → pick a (pick b (Some (t.from + p)) None) (entry_named ts name p) ≡ Some e
        → (entry_named ts name p ≡ Some e → (t.from + t.size ≤ e) × (place_fields ts e ≡ name ∷ decimal p ∷ []))
        → (s ≤ e) × (pick (ltb e (t.from + t.size)) (t.name ∷ decimal (e - t.from) ∷ []) (place_fields ts e) ≡ name ∷ decimal p ∷ [])
    go true x true y h next =
        let v : t.from + p ≡ e = cc in
        let below : e < t.from + t.size = omega (arith, ltb-true p t.size y) in
        let back : e - t.from ≡ p = omega arith in
        (omega (arith, f.0), rw (lt-ltb e (t.from + t.size) below, back, same_true t.name name x))
    go true x false y h next = none_some h
    go false x b y h next =
        let later = next h in
        (omega (arith, f.0, later.0), rw (le-ltb e (t.from + t.size) later.0) later.1)

-- what a line's fields say, field by field
record Fields (o m k : Option ℕ) (l : Line) : Type 0 where
  entry_is : o ≡ Some l.entry
  long_is : m ≡ Some l.long
  value_is : k ≡ Some l.value

fields_say : (o m k : Option ℕ) (l : Line) → line_at o m k ≡ Some l → Fields o m k l
fields_say None m k l q = none_some q
fields_say (Some e) None k l q = none_some q
fields_say (Some e) (Some n) None l q = none_some q
fields_say (Some e) (Some n) (Some v) l q =
    let w : record { entry = e; long = n; value = v } ≡ l = cc in
    record {
      entry_is = ap (λ (x : Line). Some x.entry) w;
      long_is = ap (λ (x : Line). Some x.long) w;
      value_is = ap (λ (x : Line). Some x.value) w;
    }

number_text : (n : ℕ) (t : List ℕ) → line_number t ≡ Some n → t ≡ decimal n
number_text n t q = number_decimal 65535 n t q (omega (arith, number_le 65535 n t q))

place_text : (name p : List ℕ) (e : ℕ) → entry_field name (line_number p) ≡ Some e → place_fields file_tables e ≡ name ∷ p ∷ []
place_text name p e q = go (line_number p) refl q
  where
    go : (o : Option ℕ) → line_number p ≡ o → entry_field name o ≡ Some e → place_fields file_tables e ≡ name ∷ p ∷ []
    go None x h = none_some h
    go (Some n) x h = (named_place file_tables 0 name n e tables_follow h).1 ∙ rw (← number_text n p x)

-- the fields of a line that is read are those that it is written with
fields_read : (fs : List (List ℕ)) (l : Line) → line_read fs ≡ Some l → fs ≡ fields_for l
unfolding line_read fields_for
fields_read [] l q = none_some q
fields_read (t ∷ []) l q = none_some q
fields_read (t ∷ (p ∷ [])) l q = none_some q
fields_read (t ∷ (p ∷ (n ∷ []))) l q = none_some q
fields_read (t ∷ (p ∷ (n ∷ (v ∷ [])))) l q =
    let f = fields_say (entry_field t (line_number p)) (line_number n) (line_number v) l q in
    rw (place_text t p l.entry f.entry_is, ← number_text l.long n f.long_is, ← number_text l.value v f.value_is)
fields_read (t ∷ (p ∷ (n ∷ (v ∷ (x ∷ xs))))) l q = none_some q

line_text_lem : (t : List ℕ) (l : Line) → line_read (fields_of t) ≡ Some l → t ≡ joined (fields_for l)
line_text_lem t l q = sym (joined_fields t) ∙ ap joined (fields_read (fields_of t) l q)

lines_text : (ts : List (List ℕ)) (ls : List Line) → lines_read ts ≡ Some ls → ended ts ≡ file_of ls
unfolding lines_read ended file_of line_of
lines_text [] ls q = let w : [] ≡ ls = cc in rw (← w)
lines_text (t ∷ ts) ls q = go (line_read (fields_of t)) (lines_read ts) (line_text_lem t) (lines_text ts) q
  where
    go : (a : Option Line) (b : Option (List Line)) → ((l : Line) → a ≡ Some l → t ≡ joined (fields_for l)) → ((ms : List Line) → b ≡ Some ms → ended ts ≡ file_of ms)
        → onto_lines a b ≡ Some ls → t ++ (line_feed ∷ ended ts) ≡ file_of ls
    go None b f g h = none_some h
    go (Some l) None f g h = none_some h
    go (Some l) (Some ms) f g h =
        let w : l ∷ ms ≡ ls = cc in
        rw (← w, f l refl, g ms refl) (sym (append_assoc (joined (fields_for l)) (line_feed ∷ []) (file_of ms)))

-- a file whose lines are read is the text of those lines
pub file_text : (file : List ℕ) (ls : List Line) → file_lines file ≡ Some ls → file ≡ file_of ls
unfolding file_lines
file_text file ls q = go (lines_of file) refl q
  where
    go : (o : Option (List (List ℕ))) → lines_of file ≡ o → of_lines o ≡ Some ls → file ≡ file_of ls
    go None x h = none_some h
    go (Some ts) x h = lines_ended file ts x ∙ lines_text ts ls h
