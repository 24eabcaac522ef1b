-- What the functions of `inner` ask and find (document 01, refusals 5 and 6, as a caller meets them; "Reading").
use Rattle.std.specs.Prelude.{ℕ, ◌/◌, ◌≤◌, ◌<◌, ◌≡◌, true, false, List, length, Option, Some, None}
use Rattle.code_tables.specs.Codes.{code_len, code, begins}

-- the table has an entry at position k, and its code is not too long (document 01, 5, 6)
pub record GoodEntry (t : List ℕ) (k : ℕ) : Type 0 where
  pub there : k < length t / 3
  pub long : code_len t k ≤ 32

-- none of the first n codes begins bs
abbrev pub NoneBegins : List (List ℕ) → List ℕ → ℕ → Type 0
NoneBegins cs bs n = (k : ℕ) → k < n → begins (code cs k) bs ≡ false

-- r is the position of the first of the codes that begins bs, or there is none
abbrev pub FirstThatBegins : List (List ℕ) → List ℕ → Option ℕ → Type 0
FirstThatBegins cs bs (Some i) = (i < length cs) × NoneBegins cs bs i × (begins (code cs i) bs ≡ true)
FirstThatBegins cs bs None = NoneBegins cs bs (length cs)
