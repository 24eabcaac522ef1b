-- Laws of filling a slice, element by element, and of a run written into one.
use Rattle.std.specs.Prelude.{ℕ, ◌+◌, ◌-◌, ◌≤◌, ◌<◌, suc, ◌≡◌, List, [], ◌∷◌, ◌++◌, length, take, drop, get_or, set}
use Rattle.std.proofs.Common.{sym, ap, ◌∙◌, append-nil, add-zero, add-one, arith, length-drop, drop_of_length-le, take_all, take-suc, take-suc-set, length-take-le, get_or-take, get_or-drop}
use Rattle.std.proofs.Math.Seq.{take-length}
use Rattle.std.proofs.lemmas.List.Edits.{sets, sets-eq}

-- the first i elements are there, and element i is stored
pub fill_step : (whole out : List ℕ) (i v : ℕ) → i < length out → i < length whole → take i out ≡ take i whole → v ≡ get_or whole i 0
    → take (i + 1) (set out i v) ≡ take (i + 1) whole
fill_step whole out i v h k e b = rw (add-one, take-suc-set out i v h, take-suc whole i 0 k, e, b)

pub fill_end : (whole out : List ℕ) (i : ℕ) → length out ≡ length whole → length whole ≤ i → take i out ≡ take i whole → out ≡ whole
fill_end whole out i n h e = sym (take_all i out (omega arith)) ∙ e ∙ take_all i whole h

-- ---- a run written
-- two runs, the second behind the first
pub sets_append : (l : List ℕ) (k : ℕ) (x y : List ℕ) → sets l k (x ++ y) ≡ sets (sets l k x) (k + length x) y
sets_append l k [] y = ap (λ (n : ℕ). sets l n y) (sym (add-zero k))
sets_append l k (a ∷ x) y =
    sets_append (set l k a) (suc k) x y
    ∙ ap (λ (n : ℕ). sets (sets (set l k a) (suc k) x) n y) (let e : suc k + length x ≡ k + suc (length x) = omega arith in e)

-- its first i elements are there, and element i is stored
pub row_step : (o xs : List ℕ) (at i : ℕ) → i < length xs → set (sets o at (take i xs)) (at + i) (get_or xs i 0) ≡ sets o at (take (i + 1) xs)
row_step o xs at i h =
    let e : length (take i xs) ≡ i = length-take-le i xs (omega arith) in
    rw (add-one, take-suc xs i 0, sets_append o at (take i xs) (get_or xs i 0 ∷ []), e)

pub row_end : (o xs out : List ℕ) (at i : ℕ) → length xs ≤ i → i ≤ length xs → out ≡ sets o at (take i xs) → out ≡ sets o at xs
row_end o xs out at i a b e = let q : i ≡ length xs = omega arith in e ∙ rw (q, take-length xs)

-- one as long as the list is the list
pub sets_all : (o xs : List ℕ) → length o ≡ length xs → sets o 0 xs ≡ xs
sets_all o xs e = sets-eq xs o 0 (omega arith) ∙ rw (drop_of_length-le o {i = 0 + length xs} (omega arith)) (append-nil xs)

-- ---- the run of w elements from q on, as a part of a slice has it
abbrev pub run_of : List ℕ → ℕ → ℕ → List ℕ
run_of l q w = take (q + w - q) (drop q l)

pub run : (l : List ℕ) (q w : ℕ) → run_of l q w ≡ take w (drop q l)
run l q w = let e : q + w - q ≡ w = omega arith in rw e

pub length_run : (l : List ℕ) (q w : ℕ) → q + w ≤ length l → length (run_of l q w) ≡ w
length_run l q w h = ap length (run l q w) ∙ length-take-le w (drop q l) (simp length-drop (omega arith))

pub run_at : (l : List ℕ) (q w j : ℕ) → j < w → get_or (run_of l q w) j 0 ≡ get_or l (q + j) 0
run_at l q w j h = get_or-take (q + w - q) (drop q l) j 0 (omega arith) ∙ get_or-drop q l j 0
