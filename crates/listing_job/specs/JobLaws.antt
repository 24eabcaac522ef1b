-- Laws of reading a job line field after field. Assumes nothing.
use Rattle.std.specs.Prelude.{ℕ, zero, suc, ◌+◌, ◌-◌, ◌^◌, ◌≤◌, ◌<◌, ◌≡◌, Bool, List, [], ◌∷◌, ltb, take, drop, get_or, Option, None, Some}
use Rattle.std.proofs.Math.Path.{refl}
use Rattle.std.proofs.Common.{sym, ap, ◌∙◌, arith}
use Rattle.std.proofs.Math.Bool.{true, false}
use Rattle.std.proofs.Math.Dec.{eqb}
use Rattle.std.proofs.Math.ListN.{length, length-drop}
use borrow.Author.Tests.{eqb-true, eqb-false, lt-ltb, le-ltb, ltb-true, ltb-false}
use Rattle.bits.specs.BasicsLaws.{part_from, part_from_lem}
use Rattle.text.specs.Text.{comma, line_feed, number_up_to, lines_of, fields_of}
use Rattle.text.specs.ReadingForms.{count_before, line_before}
use Rattle.text.specs.TextLaws.{none_some, number_le, count_le, some_piece, pieces_last, pieces_next, lines_none, lines_open, lines_next}
use Rattle.text.specs.WritingFormsLaws.{number_comma}
use Rattle.listing_job.specs.Job.{Job, most_width, most_height, bounds, onto_numbers, each_up_to, job_of, job_made, job_read, one_line, job_in, job_answer}
use Rattle.listing_job.specs.declared.ListingJob.{ListingJob}
use Rattle.listing_job.specs.declared.Field.{Field}
use Rattle.listing_job.specs.JobForms.{job_given, job_told, taken_of, field_in, FieldFound, Numbers, no_number, number, onto_rest, fields_in, FieldsRead}

-- ---- all fields
onto-none : (o : Option (List ℕ)) → onto_numbers None o ≡ None
onto-none None = refl
onto-none (Some ns) = refl

onto-taken : (o : Option ℕ) (rest : List ℕ) (f : List ℕ → Option (List ℕ)) → onto_numbers o (f rest) ≡ onto_rest (taken_of o rest) f
onto-taken None rest f = onto-none (f rest)
onto-taken (Some n) rest f = refl

-- ---- one field
-- no comma: one field
one_field : (t : List ℕ) → length t ≤ count_before comma t → fields_of t ≡ t ∷ []
unfolding fields_of
one_field t h = pieces_last comma t (omega (arith, count_le comma t))

no_field : (most : ℕ) (t : List ℕ) → length t ≤ count_before comma t → field_in most t ≡ None
unfolding field_in
no_field most t h = rw (le-ltb (count_before comma t) (length t) h)

-- the first field, and those of what stands behind its comma
first_field : (t : List ℕ) → count_before comma t < length t → fields_of t ≡ take (count_before comma t) t ∷ fields_of (drop (count_before comma t + 1) t)
unfolding fields_of
first_field t h = pieces_next comma t h

field_taken : (most : ℕ) (t : List ℕ) → count_before comma t < length t → field_in most t ≡ taken_of (number_up_to most (take (count_before comma t) t)) (drop (count_before comma t + 1) t)
unfolding field_in
field_taken most t h = rw (lt-ltb (count_before comma t) (length t) h)

-- ---- the fields of a text, one after the other
-- the last field, and one more than there are bounds
last_behind : (m : ℕ) (t : List ℕ) (fs : List (List ℕ)) → 0 < length fs → each_up_to (m ∷ []) (t ∷ fs) ≡ None
unfolding each_up_to
last_behind m t [] h = absurd (omega arith)
last_behind m t (f ∷ fs) h = refl

some_field : (t : List ℕ) → 0 < length (fields_of t)
unfolding fields_of
some_field t = some_piece comma t

last_in : (m : ℕ) (t : List ℕ) → each_up_to (m ∷ []) (fields_of t) ≡ fields_in (m ∷ []) t
unfolding each_up_to fields_in
last_in m t = go (ltb n (length t)) refl
  where
    n : ℕ
    n = count_before comma t

    go : (b : Bool) → ltb n (length t) ≡ b → each_up_to (m ∷ []) (fields_of t) ≡ onto_numbers (number_up_to m t) (Some [])
    go true q =
        let h = ltb-true n (length t) q in
        rw (first_field t h, number_comma m t h) (last_behind m (take n t) (fields_of (drop (n + 1) t)) (some_field (drop (n + 1) t)))
    go false q = rw (one_field t (ltb-false n (length t) q))

fields_in_lem : (ms : List ℕ) (m : ℕ) (t : List ℕ) → each_up_to (m ∷ ms) (fields_of t) ≡ fields_in (m ∷ ms) t
unfolding each_up_to fields_in
fields_in_lem [] m t = last_in m t
fields_in_lem (k ∷ ms) m t = go (ltb n (length t)) refl (fields_in_lem ms k (drop (n + 1) t))
  where
    n : ℕ
    n = count_before comma t

    go : (b : Bool) → ltb n (length t) ≡ b → each_up_to (k ∷ ms) (fields_of (drop (n + 1) t)) ≡ fields_in (k ∷ ms) (drop (n + 1) t)
        → each_up_to (m ∷ (k ∷ ms)) (fields_of t) ≡ onto_rest (field_in m t) (fields_in (k ∷ ms))
    go true q next =
        let h = ltb-true n (length t) q in
        rw (first_field t h, field_taken m t h, next) (onto-taken (number_up_to m (take n t)) (drop (n + 1) t) (fields_in (k ∷ ms)))
    go false q next = let h = ltb-false n (length t) q in rw (one_field t h, no_field m t h)

-- ---- what reading a field answers
module _ (most : ℕ) (t : List ℕ) (n : ℕ) (e : n ≡ count_before comma t) where
  -- no comma stands behind it
  pub field_last : length t ≤ n → FieldFound most t None
  field_last h = record { is = sym (no_field most t (rw e at h)); within = omega arith }

  module _ (h : n < length t) where
    first : field_in most t ≡ taken_of (number_up_to most (take n t)) (part_from (n + 1) t)
    first = rw (part_from_lem, e) (field_taken most t (rw e at h))

    pub field_bad : number_up_to most (take n t) ≡ None → FieldFound most t None
    field_bad q = record { is = sym (first ∙ rw q); within = omega arith }

    pub field_read : (v : ℕ) → number_up_to most (take n t) ≡ Some v → FieldFound most t (Some (record { value = v; next = n + 1 }))
    field_read v q = record { is = sym (first ∙ rw q); within = omega arith }

-- ---- a job, field after field
pub job_fields : (t : List ℕ) → job_read (fields_of t) ≡ job_made (fields_in bounds t)
unfolding job_read
job_fields t = ap job_made (fields_in_lem _ _ t)

abbrev pub none_read : List ℕ → FieldsRead bounds
none_read t = record { line = t; before = t; place = 0; within = omega arith; rest = t; made = job_made; made_none = refl; is = job_fields t }

module _ {m k : ℕ} {ms : List ℕ} (r : FieldsRead (m ∷ (k ∷ ms))) where
  pub field_is : {f : Field} → FieldFound m r.rest (Some f) → job_read (fields_of r.line) ≡ r.made (onto_numbers (Some f.value) (fields_in (k ∷ ms) (part_from f.next r.rest)))
  unfolding fields_in
  field_is found = r.is ∙ rw (← found.is)

  -- one field more
  abbrev pub then-field : {f : Field} → FieldFound m r.rest (Some f) → FieldsRead (k ∷ ms)
  then-field {f} found = record {
    line = r.line;
    before = r.rest;
    place = f.next;
    within = found.within;
    rest = part_from f.next r.rest;
    made = λ o. r.made (onto_numbers (Some f.value) o);
    made_none = r.made_none;
    is = field_is found;
  }

  -- the first that is none decides
  pub then-none : FieldFound m r.rest None → None ≡ job_read (fields_of r.line)
  unfolding fields_in
  then-none f = rw (r.is, ← f.is, r.made_none)

-- the last field
pub then_last : {m : ℕ} (r : FieldsRead (m ∷ [])) {o : Option ℕ} → o ≡ number_up_to m r.rest → r.made (onto_numbers o (Some [])) ≡ job_read (fields_of r.line)
unfolding fields_in
then_last r e = rw (r.is, e)

-- ---- the line
behind_line : (l u : List ℕ) → 0 < length u → one_line (line_before l (lines_of u)) ≡ None
behind_line l u h = go (ltb n (length u)) refl
  where
    n : ℕ
    n = count_before line_feed u

    two : (o : Option (List (List ℕ))) → one_line (line_before l (line_before (take n u) o)) ≡ None
    two None = refl
    two (Some ls) = refl

    go : (b : Bool) → ltb n (length u) ≡ b → one_line (line_before l (lines_of u)) ≡ None
    go true q = rw (lines_next u (ltb-true n (length u) q)) (two (lines_of (drop (n + 1) u)))
    go false q = rw (lines_open u h (omega (arith, ltb-false n (length u) q, count_le line_feed u)))

module _ (t : List ℕ) (n : ℕ) (e : n ≡ count_before line_feed t) where
  -- no line feed
  pub job_open : length t ≤ n → job_in t ≡ None
  unfolding job_in
  job_open h = go (eqb (length t) 0) refl
    where
      go : (b : Bool) → eqb (length t) 0 ≡ b → one_line (lines_of t) ≡ None
      go true q = rw (lines_none t (eqb-true (length t) 0 q))
      go false q = rw (lines_open t (omega (arith, eqb-false (length t) 0 q)) (omega (arith, count_le line_feed t)))

  -- something behind the line feed
  pub job_more : n + 1 < length t → job_in t ≡ None
  unfolding job_in
  job_more h =
      let long : 0 < length (drop (count_before line_feed t + 1) t) = omega (arith, length-drop (count_before line_feed t + 1) t) in
      rw (lines_next t (omega arith)) (behind_line (take (count_before line_feed t) t) (drop (count_before line_feed t + 1) t) long)

  -- one line
  pub job_one : n < length t → length t ≤ n + 1 → job_in t ≡ job_read (fields_of (take n t))
  unfolding job_in
  job_one h k =
      let none_left : length (drop (count_before line_feed t + 1) t) ≡ 0 = omega (arith, length-drop (count_before line_feed t + 1) t) in
      rw (lines_next t (omega arith), lines_none (drop (count_before line_feed t + 1) t) none_left, e)

-- ---- what a job can ask for
each_number : (ms : List ℕ) (fs : List (List ℕ)) (ns : List ℕ) → each_up_to ms fs ≡ Some ns → Numbers ms fs ns
unfolding each_up_to
each_number [] [] ns q = let is : ns ≡ [] = cc in rw is no_number
each_number [] (f ∷ fs) ns q = none_some q
each_number (m ∷ ms) [] ns q = none_some q
each_number (m ∷ ms) (f ∷ fs) ns q = go (number_up_to m f) refl (each_up_to ms fs) (each_number ms fs) q
  where
    go : (o : Option ℕ) → number_up_to m f ≡ o → (p : Option (List ℕ)) → ((rest : List ℕ) → p ≡ Some rest → Numbers ms fs rest)
        → onto_numbers o p ≡ Some ns → Numbers (m ∷ ms) (f ∷ fs) ns
    go o e None next q = none_some q
    go None e (Some rest) next q = none_some q
    go (Some n) e (Some rest) next q = let is : ns ≡ n ∷ rest = cc in rw is (number e (next rest refl))

pub job_numbers : (fs : List (List ℕ)) (j : Job) → job_read fs ≡ Some j → (ns : List ℕ) × Numbers bounds fs ns × (j ≡ job_of ns)
unfolding job_read
job_numbers fs j = go (each_up_to bounds fs) (each_number bounds fs)
  where
    go : (o : Option (List ℕ)) → ((ns : List ℕ) → o ≡ Some ns → Numbers bounds fs ns) → job_made o ≡ Some j → (ns : List ℕ) × Numbers bounds fs ns × (j ≡ job_of ns)
    go None f q = none_some q
    go (Some ns) f q = (ns, f ns refl, cc)

-- each number is within its bound
number_within : {ms ns : List ℕ} {fs : List (List ℕ)} → Numbers ms fs ns → (k : ℕ) → get_or ns k 0 ≤ get_or ms k 0
number_within no_number k = omega arith
number_within (number {m} {n} {f} e rest) zero = number_le m n f e
number_within (number e rest) (suc k) = number_within rest k

-- so it fits what holds it
abbrev pub JobFits : Job → Type 0
JobFits j = (j.width ≤ most_width) × (j.height ≤ most_height) × (j.radius ≤ 255) × (j.margin ≤ 2 ^ 32 - 1)

pub fields_small : (fs : List (List ℕ)) (j : Job) → job_read fs ≡ Some j → JobFits j
fields_small fs j q =
    let numbers = job_numbers fs j q in
    let le = number_within numbers.1 in
    rw numbers.2 (le 0, le 1, le 3, le 5)

-- the program's sizes
pub job_small : (t : List ℕ) (j : Job) → job_in t ≡ Some j → (j.width ≤ most_width) × (j.height ≤ most_height)
unfolding job_in
job_small t j = go (lines_of t)
  where
    go : (o : Option (List (List ℕ))) → one_line o ≡ Some j → (j.width ≤ most_width) × (j.height ≤ most_height)
    go None q = none_some q
    go (Some []) q = none_some q
    go (Some (l ∷ [])) q = let s = fields_small (fields_of l) j q in (s.0, s.1)
    go (Some (l ∷ (m ∷ ms))) q = none_some q

-- the answer tells which job, if any
same-job : (p o : Option Job) → job_answer p ≡ job_answer o → p ≡ o
same-job None None e = refl
same-job None (Some j) e = let z : ◌≡◌ {A = ℕ} 0 1 = cc in absurd (omega arith)
same-job (Some i) None e = let z : ◌≡◌ {A = ℕ} 0 1 = cc in absurd (omega arith)
same-job (Some i) (Some j) e = cc

pub job-told : (r : Option ListingJob) (o : Option Job) → job_told r ≡ job_answer o → o ≡ job_given r
job-told r o e = sym (same-job (job_given r) o e)
