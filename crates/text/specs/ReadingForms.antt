-- Forms of the definitions of Text that reading byte after byte follows; TextLaws ties each to its definition (document 01, "The book", the book file).
use Rattle.std.specs.Prelude.{ℕ, suc, ◌+◌, ◌-◌, ◌*◌, ◌<◌, ◌≡◌, Bool, not, ◌&&◌, List, [], ◌∷◌, eqb, leb, length, Option, None, Some}
use Rattle.bits.specs.Basics.{pick, every}
use Rattle.text.specs.Text.{is_digit}

-- how many bytes stand before the first b; all of them where there is none
unfoldable pub count_before : ℕ → List ℕ → ℕ
count_before b [] = 0
count_before b (c ∷ t) = pick (eqb c b) 0 (suc (count_before b t))

-- a place with a byte, and how many stand before it
pub record FoundAt (b : ℕ) (t : List ℕ) (n : ℕ) : Type 0 where
  pub count : n ≡ count_before b t
  pub within : n < length t

-- what finding a byte promises: its place, or none where all the text's bytes are others
abbrev pub TextFound : ℕ → List ℕ → Option ℕ → Type 0
TextFound b t (Some n) = FoundAt b t n
TextFound b t None = count_before b t ≡ length t

-- a digit's number, and none for any other byte
abbrev pub digit_of : ℕ → Option ℕ
digit_of c = pick (is_digit c) (Some (c - 48)) None

-- the digits t behind those of n, as a number of at most `most`; none at the first byte that is no digit or passes the bound
unfoldable pub digits_from : ℕ → ℕ → List ℕ → Option ℕ
digits_from most n [] = Some n
digits_from most n (c ∷ t) = pick (is_digit c && leb (10 * n + (c - 48)) most) (digits_from most (10 * n + (c - 48)) t) None

-- a line before the lines of what follows
abbrev pub line_before : List ℕ → Option (List (List ℕ)) → Option (List (List ℕ))
line_before l None = None
line_before l (Some ls) = Some (l ∷ ls)

-- no byte of the text is b
abbrev pub without : ℕ → List ℕ → Bool
without b t = every (λ c. not (eqb c b)) t
