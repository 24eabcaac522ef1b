-- The job line of the listing program (document 01, "Refused for the state met", the listing program; document 02, §4).
use Rattle.std.specs.Prelude.{ℕ, ◌-◌, ◌^◌, Bool, List, [], ◌∷◌, eqb, get_or, Option, None, Some}
use Rattle.bits.specs.Refusals.{Answer, done, refused}
use Rattle.text.specs.Text.{number_up_to, lines_of, fields_of}

-- width, height, lambda, radius, four, margin
pub record Job : Type 0 where
  pub width : ℕ
  pub height : ℕ
  pub lambda : ℕ
  pub radius : ℕ
  pub allow_four : Bool
  pub margin : ℕ

-- the largest plane that the program takes
abbrev pub most_width : ℕ
most_width = 176

abbrev pub most_height : ℕ
most_height = 144

-- the largest number of each field: sizes up to the program's, lambda of 64 bits, radius to 255, four 0 or 1, margin of 32 bits
abbrev pub bounds : List ℕ
bounds = most_width ∷ most_height ∷ (2 ^ 64 - 1) ∷ 255 ∷ 1 ∷ (2 ^ 32 - 1) ∷ []

abbrev pub onto_numbers : Option ℕ → Option (List ℕ) → Option (List ℕ)
onto_numbers o None = None
onto_numbers None (Some ns) = None
onto_numbers (Some n) (Some ns) = Some (n ∷ ns)

-- the fields' numbers: as many fields as bounds, each a number within its bound
unfoldable pub each_up_to : List ℕ → List (List ℕ) → Option (List ℕ)
each_up_to [] [] = Some []
each_up_to [] (f ∷ fs) = None
each_up_to (m ∷ ms) [] = None
each_up_to (m ∷ ms) (f ∷ fs) = onto_numbers (number_up_to m f) (each_up_to ms fs)

-- the job that they ask for
abbrev pub job_of : List ℕ → Job
job_of ns = record { width = get_or ns 0 0; height = get_or ns 1 0; lambda = get_or ns 2 0; radius = get_or ns 3 0; allow_four = eqb (get_or ns 4 0) 1; margin = get_or ns 5 0 }

abbrev pub job_made : Option (List ℕ) → Option Job
job_made None = None
job_made (Some ns) = Some (job_of ns)

unfoldable pub job_read : List (List ℕ) → Option Job
job_read fields = job_made (each_up_to bounds fields)

-- one line, ended by a line feed
abbrev pub one_line : Option (List (List ℕ)) → Option Job
one_line None = None
one_line (Some []) = None
one_line (Some (l ∷ [])) = job_read (fields_of l)
one_line (Some (l ∷ (m ∷ ms))) = None

unfoldable pub job_in : List ℕ → Option Job
job_in file = one_line (lines_of file)

-- a line that asks for no job is refused with 1
abbrev pub job_answer : Option Job → Answer Job
job_answer None = refused 1
job_answer (Some j) = done j
