-- Laws of tables of codes: what begins a run of bits, a code by its entry, good and prefix-free tables. Upper layers cite code_at, length-codesOf, good-is.
use Rattle.std.specs.Prelude.{ℕ, zero, suc, ◌+◌, ◌-◌, ◌*◌, ◌/◌, ◌%◌, ◌^◌, ◌≤◌, ◌<◌, ◌≡◌, refl, Bool, true, false, not, ◌&&◌, ◌||◌, List, [], ◌∷◌, ◌++◌, eqb, leb, ltb, length, take, drop, get_or}
use Rattle.std.proofs.Common.{sym, ap, ◌∙◌, subst, true≢false, add-one, arith, not-suc-le-zero, le_of_suc-le-suc, mod-eq_of_lt, shr_lt, length-append, drop_of_length-le, take_at, drop-cons, eqb-true, eq-eqb, ne_eqb, leb-true, ltb-true}
use Rattle.std.proofs.Math.Decide.{dec_lt}
use Rattle.std.proofs.Math.ListN.{get_or-eq_default}
use Rattle.std.proofs.Math.Seq.{take-nil, drop-nil}
use Rattle.std.proofs.lemmas.Bool.{eqb-false, not-true}
use Rattle.bits.specs.BasicsLaws.{both_true, is_false}
use Rattle.bits.specs.Bits.{msb, val_of}
use Rattle.bits.specs.BitsLaws.{msb_split, length_msb}
use Rattle.bits.specs.ReadLaws.{val_of-msb}
use Rattle.code_tables.specs.Codes.{begins, clash, apart, code, codes_of, code_val, code_len, good_entry, good_table}

pub begins-append : (c bs : List ℕ) → begins c (c ++ bs) ≡ true
unfolding begins
begins-append [] bs = refl
begins-append (x ∷ c) bs = rw (eq-eqb x x refl) (begins-append c bs)

pub begins_true : (c bs : List ℕ) → begins c bs ≡ true → bs ≡ c ++ drop (length c) bs
unfolding begins
begins_true [] bs e = refl
begins_true (x ∷ c) [] e = absurd (true≢false (sym e))
begins_true (x ∷ c) (y ∷ bs) e =
    let h = both_true (eqb x y) (begins c bs) e in
    rw (eqb-true x y h.0) (ap (λ (l : List ℕ). y ∷ l) (begins_true c bs h.1))

pub begins_long : (c bs : List ℕ) → length bs < length c → begins c bs ≡ false
begins_long c bs h = is_false (begins c bs) (λ e. omega (arith, simp length-append at (ap length (begins_true c bs e))))

-- a code of at most n bits begins bs where it begins the first n bits of bs
pub begins_window : (c bs : List ℕ) (n : ℕ) → length c ≤ n → begins c (take n bs) ≡ begins c bs
unfolding begins
begins_window [] bs n h = refl
begins_window (x ∷ c) bs zero h = absurd (not-suc-le-zero h)
begins_window (x ∷ c) [] (suc n) h = refl
begins_window (x ∷ c) (y ∷ bs) (suc n) h = ap (◌&&◌ (eqb x y)) (begins_window c bs n (le_of_suc-le-suc h))

pub eqb_swap : (x y : ℕ) → eqb x y ≡ eqb y x
eqb_swap x y = go (eqb x y) refl
  where
    go : (b : Bool) → eqb x y ≡ b → eqb x y ≡ eqb y x
    go true e = e ∙ sym (eq-eqb y x (sym (eqb-true x y e)))
    go false e = e ∙ sym (ne_eqb y x (λ q. eqb-false x y e (sym q)))

-- and bs starts such a code that does not begin it where its first n bits do
pub starts_window : (c bs : List ℕ) (n : ℕ) → length c ≤ n → begins c bs ≡ false → begins (take n bs) c ≡ begins bs c
unfolding begins
starts_window c [] zero h e = refl
starts_window c [] (suc n) h e = refl
starts_window [] (y ∷ bs) n h e = absurd (true≢false e)
starts_window (x ∷ c) (y ∷ bs) zero h e = absurd (not-suc-le-zero h)
starts_window (x ∷ c) (y ∷ bs) (suc n) h e = go (eqb y x) refl (λ q. starts_window c bs n (le_of_suc-le-suc h) q)
  where
    go : (b : Bool) → eqb y x ≡ b → (begins c bs ≡ false → begins (take n bs) c ≡ begins bs c)
        → (eqb y x && begins (take n bs) c) ≡ (eqb y x && begins bs c)
    go true q next = ap (◌&&◌ (eqb y x)) (next (rw (eqb_swap x y, q) at e))
    go false q next = rw q

-- of two codes only the shorter can begin the other
pub clash_short : (c d : List ℕ) → length c ≤ length d → clash c d ≡ begins c d
unfolding begins
clash_short [] d h = refl
clash_short (x ∷ c) [] h = absurd (not-suc-le-zero h)
clash_short (x ∷ c) (y ∷ d) h = rw (eqb_swap y x) (go (eqb x y) (clash_short c d (le_of_suc-le-suc h)))
  where
    go : (t : Bool) → clash c d ≡ begins c d → ((t && begins c d) || (t && begins d c)) ≡ (t && begins c d)
    go true e = e
    go false e = refl

pub clash_swap : (c d : List ℕ) → clash c d ≡ clash d c
clash_swap c d = go (begins c d) (begins d c)
  where
    go : (s t : Bool) → (s || t) ≡ (t || s)
    go true true = refl
    go true false = refl
    go false true = refl
    go false false = refl

-- whether the a bits of x begin the b bits of y, by a shift
pub begins-msb : (a b x y : ℕ) → a ≤ b → x < 2 ^ a → y < 2 ^ b → begins (msb a x) (msb b y) ≡ eqb (y / 2 ^ (b - a)) x
begins-msb a b x y h hx hy =
    let d : ℕ = b - a in
    let e : a + d ≡ b = omega arith in
    let z : ℕ = y / 2 ^ d in
    let hz : z < 2 ^ a = shr_lt a d (rw e hy) in
    let two : msb b y ≡ msb a z ++ msb d y = subst (λ (n : ℕ). msb n y ≡ msb a z ++ msb d y) e (msb_split a d y) in
    rw two (go z hz (msb d y) (eqb z x) refl)
  where
    go : (z : ℕ) → z < 2 ^ a → (r : List ℕ) (t : Bool) → eqb z x ≡ t → begins (msb a x) (msb a z ++ r) ≡ eqb z x
    go z hz r true q = rw (q, eqb-true z x q) (begins-append (msb a x) r)
    go z hz r false q =
        rw q (is_false (begins (msb a x) (msb a z ++ r)) (λ t.
        let whole = begins_true (msb a x) (msb a z ++ r) t in
        let same : msb a z ≡ msb a x =
        sym (take_at (msb a z) r a (length_msb a z)) ∙ ap (take a) whole ∙ take_at (msb a x) _ a (length_msb a x) in
        let val : z % 2 ^ a ≡ x % 2 ^ a = sym (val_of-msb a z) ∙ ap val_of same ∙ val_of-msb a x in
        eqb-false z x q (sym (mod-eq_of_lt hz) ∙ val ∙ mod-eq_of_lt hx)))

-- ---- a table's codes
pub length_codes_of : (t : List ℕ) → length (codes_of t) ≡ length t / 3
unfolding codes_of
length_codes_of [] = refl
length_codes_of (h ∷ []) = refl
length_codes_of (h ∷ l ∷ []) = refl
length_codes_of (h ∷ l ∷ n ∷ t) = omega (arith, length_codes_of t)

pub code_at : (t : List ℕ) (k : ℕ) → k < length t / 3 → code (codes_of t) k ≡ msb (code_len t k) (code_val t k)
unfolding codes_of
code_at [] k lt = absurd (omega arith)
code_at (h ∷ []) k lt = absurd (omega arith)
code_at (h ∷ l ∷ []) k lt = absurd (omega arith)
code_at (h ∷ l ∷ n ∷ t) zero lt = refl
code_at (h ∷ l ∷ n ∷ t) (suc k) lt =
    let e : 3 * suc k ≡ suc (suc (suc (3 * k))) = omega arith in
    let e1 : 3 * suc k + 1 ≡ suc (suc (suc (3 * k + 1))) = omega arith in
    let e2 : 3 * suc k + 2 ≡ suc (suc (suc (3 * k + 2))) = omega arith in
    rw (e2, e1, e) (code_at t k (omega arith))

-- a code is as long as its entry says
pub code-length : (t : List ℕ) (k : ℕ) → k < length t / 3 → length (code (codes_of t) k) ≡ code_len t k
code-length t k h = rw (code_at t k h) (length_msb (code_len t k) (code_val t k))

-- ---- prefix-freeness
pub apart_at : (c : List ℕ) (cs : List (List ℕ)) (k : ℕ) → k < length cs → apart c cs ≡ true → clash c (code cs k) ≡ false
unfolding apart
apart_at c [] k h e = absurd (not-suc-le-zero h)
apart_at c (d ∷ cs) zero h e = not-true (clash c d) (both_true (not (clash c d)) (apart c cs) e).0
apart_at c (d ∷ cs) (suc k) h e = apart_at c cs k (le_of_suc-le-suc h) (both_true (not (clash c d)) (apart c cs) e).1

-- ---- good tables
-- what good_table says of each entry: a length of 1 to 32 bits, and a value below 2 to the length
pub record GoodTable (t : List ℕ) : Type 0 where
  pub some : (k : ℕ) → k < length t / 3 → 1 ≤ code_len t k
  pub long : (k : ℕ) → k < length t / 3 → code_len t k ≤ 32
  pub small : (k : ℕ) → k < length t / 3 → code_val t k < 2 ^ code_len t k

pub good_at : (t : List ℕ) (k : ℕ) → good_table t ≡ true → k < length t / 3 → good_entry (code_val t k) (code_len t k) ≡ true
unfolding good_table
good_at [] k e lt = absurd (omega arith)
good_at (h ∷ []) k e lt = absurd (omega arith)
good_at (h ∷ l ∷ []) k e lt = absurd (omega arith)
good_at (h ∷ l ∷ n ∷ t) zero e lt = (both_true (good_entry (h * 256 + l) n) (good_table t) e).0
good_at (h ∷ l ∷ n ∷ t) (suc k) e lt =
    let e0 : 3 * suc k ≡ suc (suc (suc (3 * k))) = omega arith in
    let e1 : 3 * suc k + 1 ≡ suc (suc (suc (3 * k + 1))) = omega arith in
    let e2 : 3 * suc k + 2 ≡ suc (suc (suc (3 * k + 2))) = omega arith in
    rw (e2, e1, e0) (good_at t k (both_true (good_entry (h * 256 + l) n) (good_table t) e).1 (omega arith))

pub good_is : (t : List ℕ) → good_table t ≡ true → GoodTable t
good_is t e =
    let two : (k : ℕ) → k < length t / 3 → ((leb 1 (code_len t k) && leb (code_len t k) 32) ≡ true) × (ltb (code_val t k) (2 ^ code_len t k) ≡ true) =
    λ k h. both_true (leb 1 (code_len t k) && leb (code_len t k) 32) (ltb (code_val t k) (2 ^ code_len t k)) (good_at t k e h) in
    let one : (k : ℕ) → k < length t / 3 → (leb 1 (code_len t k) ≡ true) × (leb (code_len t k) 32 ≡ true) =
    λ k h. both_true (leb 1 (code_len t k)) (leb (code_len t k) 32) (two k h).0 in
    record {
      some = λ k h. leb-true 1 (code_len t k) (one k h).0;
      long = λ k h. leb-true (code_len t k) 32 (one k h).1;
      small = λ k h. ltb-true (code_val t k) (2 ^ code_len t k) (two k h).1;
    }

pub good_step : (t : List ℕ) (i : ℕ) → i < length t / 3
    → good_table (drop (3 * i) t) ≡ (good_entry (code_val t i) (code_len t i) && good_table (drop (3 * (i + 1)) t))
unfolding good_table
good_step t i h =
    let a : drop (3 * i) t ≡ get_or t (3 * i) 0 ∷ drop (suc (3 * i)) t = drop-cons t (3 * i) 0 (omega arith) in
    let b : drop (suc (3 * i)) t ≡ get_or t (3 * i + 1) 0 ∷ drop (suc (3 * i + 1)) t = rw (← add-one (3 * i)) (drop-cons t (3 * i + 1) 0 (omega arith)) in
    let e : suc (3 * i + 1) ≡ 3 * i + 2 = omega arith in
    let d : drop (3 * i + 2) t ≡ get_or t (3 * i + 2) 0 ∷ drop (suc (3 * i + 2)) t = drop-cons t (3 * i + 2) 0 (omega arith) in
    let f : suc (3 * i + 2) ≡ 3 * (i + 1) = omega arith in
    ap good_table (a ∙ ap (λ (l : List ℕ). get_or t (3 * i) 0 ∷ l) (b ∙ ap (λ (l : List ℕ). get_or t (3 * i + 1) 0 ∷ l) (ap (λ (m : ℕ). drop m t) e ∙ d ∙ ap (λ (m : ℕ). get_or t (3 * i + 2) 0 ∷ drop m t) f)))

pub good_end : (t : List ℕ) (i : ℕ) → length t % 3 ≡ 0 → length t / 3 ≤ i → good_table (drop (3 * i) t) ≡ true
unfolding good_table
good_end t i w h = rw (drop_of_length-le t {i = 3 * i} (omega arith))

-- none of its codes is longer than 32 bits
pub code_fits : (t : List ℕ) → good_table t ≡ true → (k : ℕ) → k < length (codes_of t) → length (code (codes_of t) k) ≤ 32
code_fits t g k h =
    let l : k < length t / 3 = rw length_codes_of at h in
    rw (code-length t k l) ((good_is t g).long k l)

-- also where there is no code
pub code_most : (t : List ℕ) → good_table t ≡ true → (k : ℕ) → length (code (codes_of t) k) ≤ 32
code_most t g k =
    elim (dec_lt k (length (codes_of t))) [
      | yes h ↦ code_fits t g k h
      | no h ↦ rw (get_or-eq_default (codes_of t) [] {n = k} (omega arith)) (omega arith)
    ]

-- whole entries taken from either end of a good table are a good table
pub good_take : (t : List ℕ) (n : ℕ) → good_table t ≡ true → good_table (take (3 * n) t) ≡ true
unfolding good_table
good_take t zero e = refl
good_take [] (suc n) e = rw (take-nil (3 * suc n))
good_take (h ∷ []) (suc n) e = absurd (true≢false (sym e))
good_take (h ∷ l ∷ []) (suc n) e = absurd (true≢false (sym e))
good_take (h ∷ l ∷ m ∷ t) (suc n) e =
    let two = both_true (good_entry (h * 256 + l) m) (good_table t) e in
    let k : 3 * suc n ≡ suc (suc (suc (3 * n))) = omega arith in
    rw (k, two.0) (good_take t n two.1)

pub good_drop : (t : List ℕ) (n : ℕ) → good_table t ≡ true → good_table (drop (3 * n) t) ≡ true
unfolding good_table
good_drop t zero e = e
good_drop [] (suc n) e = rw (drop-nil (3 * suc n))
good_drop (h ∷ []) (suc n) e = absurd (true≢false (sym e))
good_drop (h ∷ l ∷ []) (suc n) e = absurd (true≢false (sym e))
good_drop (h ∷ l ∷ m ∷ t) (suc n) e =
    let k : 3 * suc n ≡ suc (suc (suc (3 * n))) = omega arith in
    rw k (good_drop t n (both_true (good_entry (h * 256 + l) m) (good_table t) e).1)
