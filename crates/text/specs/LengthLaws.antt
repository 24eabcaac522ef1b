-- Laws of how long a number, a line and its fields are. Assumes nothing.
use Rattle.std.specs.Prelude.{ℕ, zero, suc, ◌+◌, ◌/◌, ◌%◌, ◌^◌, ◌≤◌, ◌<◌, ◌≡◌, refl, Bool, true, false, List, [], ◌∷◌, ◌++◌, ltb, length}
use Rattle.std.proofs.Common.{arith, length-append, ltb-false}
use Rattle.bits.specs.Basics.{pick}
use Rattle.text.specs.Text.{digits_before, decimal, joined, line_of}
use Rattle.text.specs.WritingFormsLaws.{tenth_below}

-- ---- a number
digits_most : (f n : ℕ) (t : List ℕ) → length (digits_before f n t) ≤ f + length t
unfolding digits_before
digits_most zero n t = omega arith
digits_most (suc f) n t = go (ltb n 10) (digits_most f (n / 10) ((48 + n % 10) ∷ t))
  where
    go : (b : Bool) → length (digits_before f (n / 10) ((48 + n % 10) ∷ t)) ≤ f + suc (length t)
        → length (pick b ((48 + n) ∷ t) (digits_before f (n / 10) ((48 + n % 10) ∷ t))) ≤ suc f + length t
    go true next = omega arith
    go false next = omega arith

-- a written number has at most twenty digits
pub decimal_most : (n : ℕ) → length (decimal n) ≤ 20
unfolding decimal
decimal_most n = digits_most 20 n []

-- one below 10^k at most k
digits_few : (g f n : ℕ) (t : List ℕ) → n < 10 ^ f → 1 ≤ f → length (digits_before g n t) ≤ f + length t
unfolding digits_before
digits_few zero f n t h k = omega arith
digits_few (suc g) zero n t h k = absurd (omega arith)
digits_few (suc g) (suc f) n t h k = go (ltb n 10) refl (digits_few g f (n / 10) ((48 + n % 10) ∷ t) (tenth_below f n h))
  where
    some_left : (f : ℕ) → 10 ≤ n → n < 10 ^ suc f → 1 ≤ f
    some_left zero a b = absurd (omega arith)
    some_left (suc f) a b = omega arith

    go : (b : Bool) → ltb n 10 ≡ b → (1 ≤ f → length (digits_before g (n / 10) ((48 + n % 10) ∷ t)) ≤ f + suc (length t))
        → length (pick b ((48 + n) ∷ t) (digits_before g (n / 10) ((48 + n % 10) ∷ t))) ≤ suc f + length t
    go true q next = omega arith
    go false q next = let i = next (some_left f (ltb-false n 10 q) h) in omega (arith, i)

pub decimal_few : (k n : ℕ) → n < 10 ^ k → 1 ≤ k → length (decimal n) ≤ k
unfolding decimal
decimal_few k n h l = omega (arith, digits_few 20 k n [] h l)

-- ---- a line's length is that of its fields and one byte behind each
unfoldable pub fields_size : List (List ℕ) → ℕ
fields_size [] = 0
fields_size (f ∷ fs) = length f + 1 + fields_size fs

pub line_size : (f : List ℕ) (fs : List (List ℕ)) → length (line_of (f ∷ fs)) ≡ fields_size (f ∷ fs)
unfolding line_of joined fields_size
line_size f [] = simp length-append (omega arith)
line_size f (g ∷ gs) = simp length-append (omega (arith, length-append (joined (g ∷ gs)) (10 ∷ []), line_size g gs))

pub append_size : (xs ys : List (List ℕ)) → fields_size (xs ++ ys) ≡ fields_size xs + fields_size ys
unfolding fields_size
append_size [] ys = omega arith
append_size (x ∷ xs) ys = omega (arith, append_size xs ys)
