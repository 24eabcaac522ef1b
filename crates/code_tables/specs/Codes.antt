-- Tables of codes, and reading one code or a number from the front of a bit list (document 01, "The book", "Reading", refusals 6, 7, 10, 24).
use Rattle.std.specs.Prelude.{ℕ, suc, ◌+◌, ◌*◌, ◌^◌, Bool, true, false, not, ◌&&◌, ◌||◌, List, [], ◌∷◌, eqb, leb, ltb, length, take, drop, get_or}
use Rattle.bits.specs.Basics.{pick}
use Rattle.bits.specs.Bits.{msb, val_of}

-- ---- a table's entries: three bytes each, the code's high byte, its low byte, its length
abbrev pub code_val : List ℕ → ℕ → ℕ
code_val t k = get_or t (3 * k) 0 * 256 + get_or t (3 * k + 1) 0

abbrev pub code_len : List ℕ → ℕ → ℕ
code_len t k = get_or t (3 * k + 2) 0

-- the codes of a table as bit lists
unfoldable pub codes_of : List ℕ → List (List ℕ)
codes_of [] = []
codes_of (h ∷ []) = []
codes_of (h ∷ l ∷ []) = []
codes_of (h ∷ l ∷ n ∷ t) = msb n (h * 256 + l) ∷ codes_of t

-- the code at position k
abbrev pub code : List (List ℕ) → ℕ → List ℕ
code cs k = get_or cs k []

-- not refused by 6: the length is 1 to 32 and the value is below 2^length
abbrev pub good_entry : ℕ → ℕ → Bool
good_entry v n = (leb 1 n && leb n 32) && ltb v (2 ^ n)

-- whole entries, none refused by 6
unfoldable pub good_table : List ℕ → Bool
good_table [] = true
good_table (h ∷ []) = false
good_table (h ∷ l ∷ []) = false
good_table (h ∷ l ∷ n ∷ t) = good_entry (h * 256 + l) n && good_table t

-- the bits c are the first bits of bs
unfoldable pub begins : List ℕ → List ℕ → Bool
begins [] bs = true
begins (x ∷ c) [] = false
begins (x ∷ c) (y ∷ bs) = eqb x y && begins c bs

-- one of two codes begins the other or equals it
abbrev pub clash : List ℕ → List ℕ → Bool
clash c d = begins c d || begins d c

-- c clashes with none of the codes
unfoldable pub apart : List ℕ → List (List ℕ) → Bool
apart c [] = true
apart c (d ∷ cs) = not (clash c d) && apart c cs

-- not refused by 7: no code of the table begins another or equals it
unfoldable pub prefix_free : List (List ℕ) → Bool
prefix_free [] = true
prefix_free (c ∷ cs) = apart c cs && prefix_free cs

-- ---- reading a code
-- what reading a code finds at a bit: the position of its entry and the bit behind it; no code; or the start of one, cut off by the end
pub data CodeRead : Type 0 where
  Code : ℕ → ℕ → CodeRead
  NoCode : CodeRead
  Ends : CodeRead

-- the first of the codes, counted from k, that begins bs, with the bit behind it, where bs stands at bit `at`; else `other`
unfoldable pub first_code : List (List ℕ) → ℕ → List ℕ → ℕ → CodeRead → CodeRead
first_code [] k bs at other = other
first_code (c ∷ cs) k bs at other = pick (begins c bs) (Code k (at + length c)) (first_code cs (suc k) bs at other)

-- bs is the start of one of the codes
unfoldable pub any_start : List (List ℕ) → List ℕ → Bool
any_start [] bs = false
any_start (c ∷ cs) bs = begins bs c || any_start cs bs

-- what stands at bit `at`: a code; the start of one, cut off where the bits end; or neither
abbrev pub read_code : List (List ℕ) → List ℕ → ℕ → CodeRead
read_code cs bits at = first_code cs 0 (drop at bits) at (pick (any_start cs (drop at bits)) Ends NoCode)

-- ---- reading from the front of a bit list
-- what reading gives: a value and the bits left, or a refusal's number
pub data Got (A : Type 0) : Type 0 where
  got : A → List ℕ → Got A
  bad : ℕ → Got A

-- one reading after another: the first refusal met is the one given
abbrev pub then : {A B : Type 0} → Got A → (A → List ℕ → Got B) → Got B
then (got a r) f = f a r
then (bad k) f = bad k

-- document 01's number for what reading a code met: 10 where the bits neither begin with a code nor are the start of one, 24 where they end inside one
abbrev pub code_got : List ℕ → CodeRead → Got ℕ
code_got bits (Code k next) = got k (drop next bits)
code_got bits NoCode = bad 10
code_got bits Ends = bad 24

-- the position of the code that the bits begin with
unfoldable pub take_code : List (List ℕ) → List ℕ → Got ℕ
take_code cs bits = code_got bits (read_code cs bits 0)

-- the number that the first w bits stand for; 24 where there are fewer
unfoldable pub take_bits : ℕ → List ℕ → Got ℕ
take_bits w bits = pick (ltb (length bits) w) (bad 24) (got (val_of (take w bits)) (drop w bits))
