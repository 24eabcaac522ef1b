-- Text as a list of bytes: decimal numbers, fields between commas, lines (document 01, "The book", the book file; "Refused for the state met", the listing;
-- document 02, §3, signed numbers).
use Rattle.std.specs.Prelude.{ℕ, zero, suc, ◌+◌, ◌-◌, ◌*◌, ◌/◌, ◌%◌, Bool, true, false, not, ◌&&◌, List, [], ◌∷◌, ◌++◌, eqb, leb, ltb, ℤ, pos, negsuc, Option, None, Some}
use Prim.Native.Char.{code}
use Prim.Native.String.{String, [] as no_text, ◌∷◌ as ◌then◌}
use Rattle.bits.specs.Basics.{pick, every}

-- the bytes of a text of ASCII characters: the code of each
abbrev pub ascii : String → List ℕ
ascii no_text = []
ascii (c then t) = code c ∷ ascii t

abbrev pub comma : ℕ
comma = 44

abbrev pub line_feed : ℕ
line_feed = 10

abbrev pub minus : ℕ
minus = 45

-- a byte is one of 0 to 9
abbrev pub is_digit : ℕ → Bool
is_digit c = leb 48 c && leb c 57

-- ---- reading
-- decimal, no leading zeros: some digits, the first of several not 0
unfoldable pub is_number : List ℕ → Bool
is_number [] = false
is_number (c ∷ []) = is_digit c
is_number (c ∷ d ∷ t) = (is_digit c && not (eqb c 48)) && every is_digit (d ∷ t)

-- what digits stand for, behind the digits of n
unfoldable pub value_from : ℕ → List ℕ → ℕ
value_from n [] = n
value_from n (c ∷ t) = value_from (10 * n + (c - 48)) t

-- a field that is a number of at most `most`; none where it has another form
unfoldable pub number_up_to : ℕ → List ℕ → Option ℕ
number_up_to most t = pick (is_number t && leb (value_from 0 t) most) (Some (value_from 0 t)) None

-- a number as a signed one, and behind a minus, where 0 is none: it has one form
abbrev pub above_zero : Option ℕ → Option ℤ
above_zero None = None
above_zero (Some n) = Some (pos n)

abbrev pub below_zero : Option ℕ → Option ℤ
below_zero None = None
below_zero (Some zero) = None
below_zero (Some (suc n)) = Some (negsuc n)

-- a field that is a signed number from -least to most, negative ones with a minus; none where it has another form
unfoldable pub signed_in : ℕ → ℕ → List ℕ → Option ℤ
signed_in least most [] = None
signed_in least most (c ∷ t) = pick (eqb c minus) (below_zero (number_up_to least t)) (above_zero (number_up_to most (c ∷ t)))

-- those that 64 bits hold
abbrev pub signed64 : List ℕ → Option ℤ
signed64 = signed_in 9223372036854775808 9223372036854775807

-- the pieces between a separator's places, one more than the separators
abbrev pub onto : ℕ → List (List ℕ) → List (List ℕ)
onto c [] = (c ∷ []) ∷ []
onto c (f ∷ fs) = (c ∷ f) ∷ fs

unfoldable pub pieces : ℕ → List ℕ → List (List ℕ)
pieces s [] = [] ∷ []
pieces s (c ∷ t) = pick (eqb c s) ([] ∷ pieces s t) (onto c (pieces s t))

-- the pieces as lines: behind the last line feed nothing stands
unfoldable pub all_ended : List (List ℕ) → Option (List (List ℕ))
all_ended [] = None
all_ended ([] ∷ []) = Some []
all_ended ((c ∷ t) ∷ []) = None
all_ended (l ∷ (m ∷ ms)) = elim (all_ended (m ∷ ms)) [ None ↦ None | Some ls ↦ Some (l ∷ ls) ]

-- the lines of a text, each ended by a line feed; none where the last is not ended
unfoldable pub lines_of : List ℕ → Option (List (List ℕ))
lines_of t = all_ended (pieces line_feed t)

unfoldable pub fields_of : List ℕ → List (List ℕ)
fields_of t = pieces comma t

-- two texts are the same
unfoldable pub same : List ℕ → List ℕ → Bool
same [] [] = true
same [] (d ∷ u) = false
same (c ∷ t) [] = false
same (c ∷ t) (d ∷ u) = eqb c d && same t u

-- ---- writing
-- the decimal digits of n before the text t, for n below 10^fuel
unfoldable pub digits_before : ℕ → ℕ → List ℕ → List ℕ
digits_before zero n t = t
digits_before (suc f) n t = pick (ltb n 10) ((48 + n) ∷ t) (digits_before f (n / 10) ((48 + n % 10) ∷ t))

-- a number below 10^20 in decimal, no leading zeros
unfoldable pub decimal : ℕ → List ℕ
decimal n = digits_before 20 n []

-- a signed number of a size below 10^20 in decimal, negative ones with a minus
unfoldable pub signed_decimal : ℤ → List ℕ
signed_decimal (pos n) = decimal n
signed_decimal (negsuc n) = minus ∷ decimal (suc n)

-- fields with commas between them
unfoldable pub joined : List (List ℕ) → List ℕ
joined [] = []
joined (f ∷ []) = f
joined (f ∷ (g ∷ gs)) = f ++ (comma ∷ joined (g ∷ gs))

unfoldable pub line_of : List (List ℕ) → List ℕ
line_of fs = joined fs ++ (line_feed ∷ [])
