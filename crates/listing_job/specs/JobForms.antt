-- Forms of the definitions of Job that reading field after field follows; JobLaws ties each to its definition (document 01, "Refused for the state met", the listing program; document 02, §4).
use Rattle.std.specs.Prelude.{ℕ, ◌+◌, ◌≤◌, ◌≡◌, List, [], ◌∷◌, ltb, length, take, drop, Option, None, Some}
use Rattle.bits.specs.Basics.{pick}
use Rattle.bits.specs.Refusals.{Answer}
use Rattle.text.specs.Text.{comma, number_up_to, fields_of}
use Rattle.text.specs.ReadingForms.{count_before}
use Rattle.bits.specs.BasicsLaws.{part_from}
use Rattle.listing_job.specs.Job.{Job, onto_numbers, job_read, job_answer}
use Rattle.listing_job.specs.declared.ListingJob.{ListingJob}
use Rattle.listing_job.specs.declared.Field.{Field}

-- the job that a line asks for
abbrev pub job_by : ListingJob → Job
job_by j = record { width = j.width; height = j.height; lambda = j.lambda; radius = j.radius; allow_four = j.four; margin = j.margin }

-- what the answer of reading a job line stands for, if for a job
abbrev pub job_given : Option ListingJob → Option Job
job_given (Some j) = Some (job_by j)
job_given None = None

-- and by document 01's number
abbrev pub job_told : Option ListingJob → Answer Job
job_told r = job_answer (job_given r)

-- ---- one field
-- its number, and the text behind its comma
pub record Taken : Type 0 where
  pub number : ℕ
  pub rest : List ℕ

abbrev pub taken_of : Option ℕ → List ℕ → Option Taken
taken_of None rest = None
taken_of (Some n) rest = Some (record { number = n; rest = rest })

-- the first of several fields; none where no comma stands behind it or it is no number up to `most`
unfoldable pub field_in : ℕ → List ℕ → Option Taken
field_in most t =
    let n = count_before comma t in
    pick (ltb n (length t)) (taken_of (number_up_to most (take n t)) (drop (n + 1) t)) None

-- what the answer of reading a field of a text says
abbrev pub field_told : Option Field → List ℕ → Option Taken
field_told (Some f) t = Some (record { number = f.value; rest = part_from f.next t })
field_told None t = None

abbrev pub behind_field : Option Field → ℕ
behind_field (Some f) = f.next
behind_field None = 0

pub record FieldFound (most : ℕ) (t : List ℕ) (r : Option Field) : Type 0 where
  pub is : field_told r t ≡ field_in most t
  pub within : behind_field r ≤ length t

-- ---- all of them
-- bounds, fields and their numbers
pub data Numbers : List ℕ → List (List ℕ) → List ℕ → Type 0 where
  no_number : Numbers [] [] []
  number : {m n : ℕ} {f : List ℕ} {ms ns : List ℕ} {fs : List (List ℕ)} → number_up_to m f ≡ Some n → Numbers ms fs ns → Numbers (m ∷ ms) (f ∷ fs) (n ∷ ns)

abbrev pub onto_rest : Option Taken → (List ℕ → Option (List ℕ)) → Option (List ℕ)
onto_rest None f = None
onto_rest (Some t) f = onto_numbers (Some t.number) (f t.rest)

-- the same from a text, its fields one after the other
unfoldable pub fields_in : List ℕ → List ℕ → Option (List ℕ)
fields_in [] t = None
fields_in (m ∷ []) t = onto_numbers (number_up_to m t) (Some [])
fields_in (m ∷ (k ∷ ms)) t = onto_rest (field_in m t) (fields_in (k ∷ ms))

-- a line, some of whose fields are read; `ms` are the bounds of the others
pub record FieldsRead (ms : List ℕ) : Type 0 where
  pub line : List ℕ
  -- the text that the last field was taken from, the place behind it there, and the text to come
  pub before : List ℕ
  pub place : ℕ
  pub within : place ≤ length before
  pub rest : List ℕ
  -- the job by the numbers of the others
  pub made : Option (List ℕ) → Option Job
  pub made_none : made None ≡ None
  pub is : job_read (fields_of line) ≡ made (fields_in ms rest)
