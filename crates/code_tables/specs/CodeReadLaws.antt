-- Laws of reading a code: what was written is read back. Upper layers cite read_at, read-put, read-after, code-at-bit, take-code, take-bits, bits-at-bit and bits-short.
use Rattle.std.specs.Prelude.{ℕ, zero, suc, ◌+◌, ◌^◌, ◌≤◌, ◌<◌, ◌≡◌, refl, Bool, true, false, List, [], ◌∷◌, ◌++◌, eqb, length, take, drop}
use Rattle.std.proofs.Common.{suc-le-suc, sym, ap, ◌∙◌, true≢false, append_assoc, arith, not-suc-le-zero, le_of_suc-le-suc, mod-eq_of_lt, add-zero, zero-add, length-append, length-drop, take_at, drop_at, drop-drop, le-ltb, lt-ltb}
use Rattle.bits.specs.Basics.{pick}
use Rattle.bits.specs.BasicsLaws.{both_true, either_right, is_false}
use Rattle.bits.specs.Bits.{msb, val_of, put_bits}
use Rattle.bits.specs.BitsLaws.{drop_put, drop_after, length_msb}
use Rattle.bits.specs.ReadLaws.{val_of-msb}
use Rattle.code_tables.specs.Codes.{begins, clash, apart, prefix_free, code, CodeRead, Code, NoCode, Ends, first_code, any_start, read_code, got, bad, code_got, take_code, take_bits}
use Rattle.code_tables.specs.CodesLaws.{begins-append, begins_window, starts_window, eqb_swap, apart_at}

-- a code that begins d and more clashes with d
begins-clash : (c d r : List ℕ) → begins c (d ++ r) ≡ true → clash c d ≡ true
unfolding begins
begins-clash [] d r e = refl
begins-clash (x ∷ c) [] r e = refl
begins-clash (x ∷ c) (y ∷ d) r e =
    let h = both_true (eqb x y) (begins c (d ++ r)) e in
    rw (h.0, eqb_swap y x, h.0) (begins-clash c d r h.1)

-- where code k stands, code k is read
pub first_of : (cs : List (List ℕ)) (k j : ℕ) (r : List ℕ) (at : ℕ) (other : CodeRead) → prefix_free cs ≡ true → k < length cs
    → first_code cs j (code cs k ++ r) at other ≡ Code (j + k) (at + length (code cs k))
unfolding first_code prefix_free
first_of [] k j r at other e h = absurd (not-suc-le-zero h)
first_of (c ∷ cs) zero j r at other e h = rw (begins-append c r, add-zero j)
first_of (c ∷ cs) (suc k) j r at other e h =
    let two = both_true (apart c cs) (prefix_free cs) e in
    let d : List ℕ = code cs k in
    let no-clash : clash c d ≡ false = apart_at c cs k (le_of_suc-le-suc h) two.0 in
    let not-c : begins c (d ++ r) ≡ false = is_false (begins c (d ++ r)) (λ t. true≢false (sym (begins-clash c d r t) ∙ no-clash)) in
    let n : suc j + k ≡ j + suc k = omega arith in
    rw not-c (first_of cs k (suc j) r at other two.1 (le_of_suc-le-suc h) ∙ ap (λ (m : ℕ). Code m (at + length d)) n)

-- in a prefix-free table: where code k stands at bit `at`, code k is read there
pub read_at : (cs : List (List ℕ)) (k : ℕ) (bits r : List ℕ) (at : ℕ) → prefix_free cs ≡ true → k < length cs
    → drop at bits ≡ code cs k ++ r → read_code cs bits at ≡ Code k (at + length (code cs k))
read_at cs k bits r at e h here =
    rw here (first_of cs k 0 r at _ e h ∙ ap (λ (m : ℕ). Code m (at + length (code cs k))) (zero-add k))

-- ---- what a search through a table tells
first-none : (cs : List (List ℕ)) (j : ℕ) (bs : List ℕ) (at : ℕ) (other : CodeRead)
    → ((k : ℕ) → k < length cs → begins (code cs k) bs ≡ false) → first_code cs j bs at other ≡ other
unfolding first_code
first-none [] j bs at other h = refl
first-none (c ∷ cs) j bs at other h =
    rw (h 0 (omega arith)) (first-none cs (suc j) bs at other (λ k l. h (suc k) (suc-le-suc l)))

first_found : (cs : List (List ℕ)) (i j : ℕ) (bs : List ℕ) (at : ℕ) (other : CodeRead) → i < length cs
    → ((k : ℕ) → k < i → begins (code cs k) bs ≡ false) → begins (code cs i) bs ≡ true
    → first_code cs j bs at other ≡ Code (j + i) (at + length (code cs i))
unfolding first_code
first_found [] i j bs at other l h e = absurd (not-suc-le-zero l)
first_found (c ∷ cs) zero j bs at other l h e = rw (e, add-zero j)
first_found (c ∷ cs) (suc i) j bs at other l h e =
    let n : suc j + i ≡ j + suc i = omega arith in
    rw (h 0 (omega arith))
    (first_found cs i (suc j) bs at other (le_of_suc-le-suc l) (λ k m. h (suc k) (suc-le-suc m)) e
    ∙ ap (λ (m : ℕ). Code m (at + length (code cs i))) n)

pub start_none : (cs : List (List ℕ)) (bs : List ℕ) → ((k : ℕ) → k < length cs → begins bs (code cs k) ≡ false) → any_start cs bs ≡ false
unfolding any_start
start_none [] bs h = refl
start_none (c ∷ cs) bs h = rw (h 0 (omega arith)) (start_none cs bs (λ k l. h (suc k) (suc-le-suc l)))

pub start_some : (cs : List (List ℕ)) (i : ℕ) (bs : List ℕ) → i < length cs → begins bs (code cs i) ≡ true → any_start cs bs ≡ true
unfolding any_start
start_some [] i bs l e = absurd (not-suc-le-zero l)
start_some (c ∷ cs) zero bs l e = rw e
start_some (c ∷ cs) (suc i) bs l e = rw (start_some cs i bs (le_of_suc-le-suc l) e) (either_right (begins bs c))

start_window : (cs : List (List ℕ)) (bs : List ℕ) (n : ℕ) → ((k : ℕ) → k < length cs → length (code cs k) ≤ n)
    → ((k : ℕ) → k < length cs → begins (code cs k) bs ≡ false) → any_start cs (take n bs) ≡ any_start cs bs
unfolding any_start
start_window [] bs n h e = refl
start_window (c ∷ cs) bs n h e =
    rw (
      starts_window c bs n (h 0 (omega arith)) (e 0 (omega arith)),
      start_window cs bs n (λ k l. h (suc k) (suc-le-suc l)) (λ k l. e (suc k) (suc-le-suc l)),
    )

-- reading by the first n bits, where no code is longer
module _ (cs : List (List ℕ)) (bits : List ℕ) (at n : ℕ) (fits : (k : ℕ) → k < length cs → length (code cs k) ≤ n) where
  pub read_found : (i : ℕ) → i < length cs → ((k : ℕ) → k < i → begins (code cs k) (take n (drop at bits)) ≡ false)
      → begins (code cs i) (take n (drop at bits)) ≡ true → read_code cs bits at ≡ Code i (at + length (code cs i))
  read_found i l h e =
      let bs : List ℕ = drop at bits in
      first_found cs i 0 bs at _ l (λ k m. sym (begins_window (code cs k) bs n (fits k (omega arith))) ∙ h k m)
      (sym (begins_window (code cs i) bs n (fits i l)) ∙ e)
      ∙ ap (λ (m : ℕ). Code m (at + length (code cs i))) (zero-add i)

  pub read_none : ((k : ℕ) → k < length cs → begins (code cs k) (take n (drop at bits)) ≡ false)
      → read_code cs bits at ≡ pick (any_start cs (take n (drop at bits))) Ends NoCode
  read_none h =
      let bs : List ℕ = drop at bits in
      let none : (k : ℕ) → k < length cs → begins (code cs k) bs ≡ false = λ k m. sym (begins_window (code cs k) bs n (fits k m)) ∙ h k m in
      first-none cs 0 bs at _ none ∙ ap (λ (b : Bool). pick b Ends NoCode) (sym (start_window cs bs n fits none))

-- a code that was written, with anything behind it, is read back
pub read_put : (cs : List (List ℕ)) (k : ℕ) (bs more : List ℕ) (at : ℕ) → prefix_free cs ≡ true → k < length cs → at ≤ length bs
    → read_code cs (put_bits bs at (code cs k ++ more)) at ≡ Code k (at + length (code cs k))
read_put cs k bs more at e h l =
    read_at cs k (put_bits bs at (code cs k ++ more)) _ at e h
    (drop_put bs (code cs k ++ more) at l ∙ append_assoc (code cs k) more _)

-- so the code that stands there is read
pub read_after : (cs : List (List ℕ)) (k : ℕ) (bs xs more : List ℕ) (at : ℕ) → prefix_free cs ≡ true → k < length cs → at ≤ length bs
    → read_code cs (put_bits bs at (xs ++ (code cs k ++ more))) (at + length xs) ≡ Code k (at + length xs + length (code cs k))
read_after cs k bs xs more at e h l =
    read_at cs k (put_bits bs at (xs ++ (code cs k ++ more))) _ (at + length xs) e h
    (drop_after bs xs (code cs k ++ more) at l ∙ append_assoc (code cs k) more _)

-- ---- reading from the front of a bit list
first_at : (cs : List (List ℕ)) (k : ℕ) (bits : List ℕ) (at : ℕ) (x y : CodeRead) → code_got bits x ≡ code_got (drop at bits) y
    → code_got bits (first_code cs k (drop at bits) at x) ≡ code_got (drop at bits) (first_code cs k (drop at bits) 0 y)
unfolding first_code
first_at [] k bits at x y e = e
first_at (c ∷ cs) k bits at x y e = go (begins c (drop at bits)) _ _ (first_at cs (suc k) bits at x y e)
  where
    go : (b : Bool) (u v : CodeRead) → code_got bits u ≡ code_got (drop at bits) v
        → code_got bits (pick b (Code k (at + length c)) u) ≡ code_got (drop at bits) (pick b (Code k (0 + length c)) v)
    go true u v h = ap (got k) (sym (drop-drop (0 + length c) at bits ∙ rw zero-add))
    go false u v h = h

-- reading a code at a bit is taking it from the bits that stand from there on
pub code_at_bit : (cs : List (List ℕ)) (bits : List ℕ) (at : ℕ) → code_got bits (read_code cs bits at) ≡ take_code cs (drop at bits)
unfolding take_code
code_at_bit cs bits at = go (any_start cs (drop at bits))
  where
    other : (b : Bool) → code_got bits (pick b Ends NoCode) ≡ code_got (drop at bits) (pick b Ends NoCode)
    other true = refl
    other false = refl

    go : (b : Bool) → code_got bits (first_code cs 0 (drop at bits) at (pick b Ends NoCode)) ≡ code_got (drop at bits) (first_code cs 0 (drop at bits) 0 (pick b Ends NoCode))
    go b = first_at cs 0 bits at (pick b Ends NoCode) (pick b Ends NoCode) (other b)

-- in a prefix-free table code k, in front of any rest, is taken as k
pub take_code_lem : (cs : List (List ℕ)) (k : ℕ) (r : List ℕ) → prefix_free cs ≡ true → k < length cs → take_code cs (code cs k ++ r) ≡ got k r
unfolding take_code
take_code_lem cs k r e h =
    rw (read_at cs k (code cs k ++ r) r 0 e h refl, zero-add (length (code cs k))) (ap (got k) (drop_at (code cs k) r (length (code cs k)) refl))

-- a number's w bits, in front of any rest, are taken as the number
pub take_bits_lem : (w v : ℕ) (r : List ℕ) → v < 2 ^ w → take_bits w (msb w v ++ r) ≡ got v r
unfolding take_bits
take_bits_lem w v r h =
    rw (
      le-ltb (length (msb w v ++ r)) w (simp (length-append, length_msb) (omega arith)),
      take_at (msb w v) r w (length_msb w v),
      drop_at (msb w v) r w (length_msb w v),
      val_of-msb w v,
      mod-eq_of_lt h,
    )

-- taking w bits from bit `at` on: their number, and what stands behind them
pub bits_at_bit : (w at : ℕ) (bits : List ℕ) → at + w ≤ length bits → take_bits w (drop at bits) ≡ got (val_of (take w (drop at bits))) (drop (at + w) bits)
unfolding take_bits
bits_at_bit w at bits h =
    rw (le-ltb (length (drop at bits)) w (rw length-drop (omega arith)), drop-drop w at bits)

-- and where they end before
pub bits_short : (w at : ℕ) (bits : List ℕ) → at ≤ length bits → length bits < at + w → take_bits w (drop at bits) ≡ bad 24
unfolding take_bits
bits_short w at bits h k = rw (lt-ltb (length (drop at bits)) w (rw length-drop (omega arith)))
