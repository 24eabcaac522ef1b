-- Words that the definitions of every crate share.
use Rattle.std.specs.Prelude.{ℕ, zero, suc, ◌+◌, ◌-◌, ◌<◌, ℤ, pos, negsuc, Bool, true, false, List, [], ◌∷◌, eqb, ltb, get_or}

-- the first of two values where the test holds, else the second
abbrev pub pick : {A : Type 0} → Bool → A → A → A
pick true a b = a
pick false a b = b

-- P of every element
abbrev pub All : {A : Type 0} → (A → Type 0) → List A → Type 0
All P [] = Unit
All P (x ∷ xs) = P x × All P xs

-- every element is a byte, as in any lent byte slice
abbrev pub Bytes : List ℕ → Type 0
Bytes xs = (k : ℕ) → get_or xs k 0 < 256

-- the elements that pass a test, in their order
unfoldable pub passing : {A : Type 0} → (A → Bool) → List A → List A
passing f [] = []
passing f (x ∷ xs) = pick (f x) (x ∷ passing f xs) (passing f xs)

-- the test holds for every element
unfoldable pub every : {A : Type 0} → (A → Bool) → List A → Bool
every f [] = true
every f (x ∷ xs) = pick (f x) (every f xs) false

-- the distance of two samples
abbrev pub gap : ℕ → ℕ → ℕ
gap a b = a - b + (b - a)

-- f 0 + .. + f (n - 1)
unfoldable pub sum : (ℕ → ℕ) → ℕ → ℕ
sum f zero = 0
sum f (suc n) = sum f n + f n

-- the n values f j, f (j + 1), ..
unfoldable pub values_from : {A : Type 0} → (ℕ → A) → ℕ → ℕ → List A
values_from f zero j = []
values_from f (suc n) j = f j ∷ values_from f n (suc j)

-- refusals (document 01, "Refused for what came in"): the first of two that is one, 0 being none. Calls list theirs lowest number first, but for those that document 02 places otherwise
abbrev pub or_else : ℕ → ℕ → ℕ
or_else a b = pick (eqb a 0) b a

-- the first of a chain of refusals that is one
unfoldable pub first_of : List ℕ → ℕ
first_of [] = 0
first_of (n ∷ ns) = or_else n (first_of ns)

-- the refusal where the test fails
abbrev pub unless : Bool → ℕ → ℕ
unless b n = pick b 0 n

-- the signed number that a two's complement byte stands for
abbrev pub signed_of : ℕ → ℤ
signed_of n = pick (ltb n 128) (pos n) (negsuc (255 - n))

-- the two's complement byte of a signed number
abbrev pub signed_byte : ℤ → ℕ
signed_byte (pos n) = n
signed_byte (negsuc n) = 255 - n

-- the natural number that a signed one is, 0 below 0
abbrev pub natural : ℤ → ℕ
natural (pos n) = n
natural (negsuc n) = 0
