-- What the public calls on codes answer and leave (document 01, refusals 5, 6, 7, 10, 21, 22, 24).
use Rattle.std.specs.Prelude.{ℕ, ◌/◌, Bool, false, ◌||◌, List, [], ◌∷◌, eqb, ltb, length}
use Rattle.bits.specs.Basics.{or_else, unless}
use Rattle.bits.specs.Bits.{bits_of}
use Rattle.bits.specs.Refusals.{Answer, done, refused}
use Rattle.bits.specs.Calls.{unless_refused, start_refusal, room_refusal}
use Rattle.code_tables.specs.Codes.{code_len, codes_of, good_table, prefix_free, CodeRead, Code, NoCode, Ends, read_code}
use Rattle.code_tables.specs.declared.svq1_vlc.CodeFound.{CodeFound}

-- what is answered: 10 where there is no code, 24 where the bits end inside one
abbrev pub read_answer : CodeRead → Answer CodeFound
read_answer (Code k next) = done (record { position = k; next = next })
read_answer NoCode = refused 10
read_answer Ends = refused 24

-- n is one of the numbers
unfoldable pub one_of : List ℕ → ℕ → Bool
one_of [] n = false
one_of (k ∷ ks) n = eqb n k || one_of ks n

-- the bytes of each kind of code table, three an entry: 4 for mode, 8 for the stages of a level, 64 for vector, 256 for intramean, 512 for intermean
abbrev pub table_bytes : List ℕ
table_bytes = 12 ∷ 24 ∷ 192 ∷ 768 ∷ 1536 ∷ []

-- of a table lent alone: 5 where it has another size, 6 where an entry is bad, 7 where a code begins another or equals it
unfoldable pub table_refusal : List ℕ → ℕ
table_refusal t = or_else (unless (one_of table_bytes (length t)) 5) (or_else (unless (good_table t) 6) (unless (prefix_free (codes_of t)) 7))

-- of a code to be written: 5 also where the table has no entry at position k
unfoldable pub code_refusal : ℕ → ℕ → List ℕ → ℕ → ℕ
code_refusal bytes at t k = or_else (unless (ltb k (length t / 3)) 5) (or_else (table_refusal t) (room_refusal bytes at (code_len t k) 22))

-- the code that stands at bit `at`
unfoldable pub code_at : List ℕ → ℕ → List ℕ → Answer CodeFound
code_at s at t = unless_refused (or_else (table_refusal t) (start_refusal (length s) at)) (read_answer (read_code (codes_of t) (bits_of s) at))
