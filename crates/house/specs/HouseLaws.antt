-- Laws of the house book and the house codebook.
use Rattle.std.specs.Prelude.{ℕ, zero, suc, ◌+◌, ◌-◌, ◌*◌, ◌/◌, ◌%◌, ◌^◌, ◌≤◌, ◌<◌, ◌≡◌, refl, Bool, true, false, ◌&&◌, List, [], ◌∷◌, ◌++◌, eqb, ltb, length, take, drop, get_or}
use Rattle.std.proofs.Common.{sym, ap, ◌∙◌, true≢false, arith, add-zero, zero-add, div-add-mod', eqb-true, lt-ltb, le-ltb, ltb-true, ltb-false}
use Rattle.std.proofs.Math.Decide.{dec_lt}
use Rattle.std.proofs.Math.Nat.{pow-succ'}
use Rattle.std.proofs.Math.IntN.{sub_ℕ}
use Rattle.std.specs.Int.Signed.{mag}
use Rattle.bits.specs.BasicsLaws.{both_true, length_values, value_at, below, below_at}
use Rattle.bits.specs.Bits.{msb}
use Rattle.bits.specs.SignedLaws.{byte_back}
use Rattle.code_tables.specs.Codes.{code_val, code_len, codes_of, good_table}
use Rattle.book.specs.Book.{book_entries, book_bytes, codebook_bytes, code_table_sizes, each_prefix_free, codes_refusal, book_refusal}
use Rattle.house.specs.House.{log_under, signed_rank, rank, house_value, house_length, house_entry, house_from, house_book, HouseBook, house_sample, house_codebook}
use Rattle.bits.specs.Basics.{pick, signed_of, signed_byte}
use Rattle.house.specs.TrieForms.{none, free, enter, all_free, free_is}

-- ---- the rule, entry by entry
pub length_house : (n p : ℕ) → length (house_from n p) ≡ 3 * n
unfolding house_from
length_house zero p = refl
length_house (suc n) p = omega (arith, length_house n (suc p))

-- one more
pub house_more : (n p : ℕ) → house_from (suc n) p ≡ house_from n p ++ house_entry (p + n)
unfolding house_from
house_more zero p = rw (add-zero p)
house_more (suc n) p =
    let e : suc p + n ≡ p + suc n = omega arith in
    ap (◌++◌ (house_entry p)) (house_more n (suc p) ∙ ap (λ (k : ℕ). house_from n (suc p) ++ house_entry k) e)

house_at : (n p k : ℕ) → k < n → (code_val (house_from n p) k ≡ house_value (p + k)) × (code_len (house_from n p) k ≡ house_length (p + k))
unfolding house_from
house_at zero p k h = absurd (omega arith)
house_at (suc n) p zero h = rw (add-zero p) (div-add-mod' (house_value p) 256, refl)
house_at (suc n) p (suc k) h =
    let e0 : 3 * suc k ≡ suc (suc (suc (3 * k))) = omega arith in
    let e1 : 3 * suc k + 1 ≡ suc (suc (suc (3 * k + 1))) = omega arith in
    let e2 : 3 * suc k + 2 ≡ suc (suc (suc (3 * k + 2))) = omega arith in
    let e : p + suc k ≡ suc p + k = omega arith in
    rw (e2, e1, e0, e) (house_at n (suc p) k (omega arith))

-- ---- the logarithm
-- it is that of n: n lies between its power of 2 and the next one
pub record Logarithm (n k : ℕ) : Type 0 where
  pub reached : 2 ^ k ≤ n
  pub not_next : n < 2 ^ suc k

pub log_is : (f n : ℕ) → 0 < n → n < 2 ^ f → Logarithm n (log_under f n)
unfolding log_under
log_is zero n h k = absurd (omega arith)
log_is (suc f) n h k = go (ltb n 2) refl (λ l. log_is f (n / 2) l (let e : 2 ^ suc f ≡ 2 * 2 ^ f = pow-succ' 2 f in omega arith))
  where
    go : (b : Bool) → ltb n 2 ≡ b → (0 < n / 2 → Logarithm (n / 2) (log_under f (n / 2)))
        → Logarithm n (pick b 0 (suc (log_under f (n / 2))))
    go true q next = let one : n ≡ 1 = omega (arith, ltb-true n 2 q) in record { reached = omega arith; not_next = omega arith }
    go false q next =
        let l = next (omega (arith, ltb-false n 2 q)) in
        let j : ℕ = log_under f (n / 2) in
        let e : 2 ^ suc j ≡ 2 * 2 ^ j = pow-succ' 2 j in
        let g : 2 ^ suc (suc j) ≡ 2 * 2 ^ suc j = pow-succ' 2 (suc j) in
        record { reached = omega (arith, l.reached); not_next = omega (arith, l.not_next) }

-- so the rule's length of each entry is 2 floor(log2(value)) + 1
values_tested : below (λ p. ltb (house_value p) 65536) book_entries ≡ true
unfolding below rank signed_rank
values_tested = refl

pub house_log : (p : ℕ) → p < book_entries → Logarithm (house_value p) (log_under 16 (house_value p))
house_log p h = log_is 16 (house_value p) (omega arith) (ltb-true (house_value p) 65536 (below_at (λ p. ltb (house_value p) 65536) book_entries p values_tested h))

-- ---- the test that antt computes over a table
-- each entry, counted from p, has the bytes of the rule
unfoldable pub ruled : ℕ → List ℕ → Bool
ruled p [] = true
ruled p (h ∷ []) = false
ruled p (h ∷ l ∷ []) = false
ruled p (h ∷ l ∷ n ∷ t) = (eqb h (house_value p / 256) && (eqb l (house_value p % 256) && eqb n (house_length p))) && ruled (suc p) t

-- in each of the tables of these many entries, one behind the other, no code begins another, by the tree
unfoldable pub each_free : List ℕ → List ℕ → Bool
each_free [] t = true
each_free (n ∷ ns) t = all_free none (codes_of (take (3 * n) t)) && each_free ns (drop (3 * n) t)

-- 932 entries by the rule, each good, in prefix-free tables
unfoldable pub house_test : List ℕ → Bool
house_test t = (eqb (length t) book_bytes && ruled 0 t) && (good_table t && each_free code_table_sizes t)

-- ---- what it shows
ruled_is : (p n : ℕ) (t : List ℕ) → ruled p t ≡ true → length t ≡ 3 * n → t ≡ house_from n p
unfolding ruled house_from
ruled_is p zero [] e h = refl
ruled_is p (suc n) [] e h = absurd (omega arith)
ruled_is p n (a ∷ []) e h = absurd (true≢false (sym e))
ruled_is p n (a ∷ b ∷ []) e h = absurd (true≢false (sym e))
ruled_is p zero (a ∷ b ∷ m ∷ t) e h = absurd (omega arith)
ruled_is p (suc n) (a ∷ b ∷ m ∷ t) e h =
    let two = both_true (eqb a (house_value p / 256) && (eqb b (house_value p % 256) && eqb m (house_length p))) (ruled (suc p) t) e in
    let high = both_true (eqb a (house_value p / 256)) (eqb b (house_value p % 256) && eqb m (house_length p)) two.0 in
    let rest = both_true (eqb b (house_value p % 256)) (eqb m (house_length p)) high.1 in
    rw (eqb-true a (house_value p / 256) high.0, eqb-true b (house_value p % 256) rest.0, eqb-true m (house_length p) rest.1)
    (ap (λ (l : List ℕ). house_value p / 256 ∷ house_value p % 256 ∷ house_length p ∷ l) (ruled_is (suc p) n t two.1 (omega arith)))

pub each_free_lem : (ns t : List ℕ) → each_free ns t ≡ true → each_prefix_free ns t ≡ true
unfolding each_free each_prefix_free
each_free_lem [] t e = refl
each_free_lem (n ∷ ns) t e =
    let two = both_true (all_free none (codes_of (take (3 * n) t))) (each_free ns (drop (3 * n) t)) e in
    rw (free_is (codes_of (take (3 * n) t)) two.0) (each_free_lem ns (drop (3 * n) t) two.1)

-- THE HOUSE BOOK: one test that antt computes over the whole table shows the rule at each entry and that no table has a clash. `house_book` has it computed over the constant
pub by_test : (t : List ℕ) → house_test t ≡ true → HouseBook t
unfolding house_test house_book book_refusal codes_refusal
by_test t e =
    let two = both_true (eqb (length t) book_bytes && ruled 0 t) (good_table t && each_free code_table_sizes t) e in
    let rule = both_true (eqb (length t) book_bytes) (ruled 0 t) two.0 in
    let codes = both_true (good_table t) (each_free code_table_sizes t) two.1 in
    let same : t ≡ house_from book_entries 0 = ruled_is 0 book_entries t rule.1 (eqb-true (length t) book_bytes rule.0) in
    record {
      bytes = same;
      values = λ p h. rw (same, (house_at book_entries 0 p h).0, zero-add p);
      lengths = λ p h. rw (same, (house_at book_entries 0 p h).1, zero-add p);
      passes = rw (rule.0, codes.0, each_free_lem code_table_sizes t codes.1);
    }

-- the same test, computed over the list that the rule builds
pub house_book_lem : HouseBook house_book
unfolding house_book house_from house_test ruled each_free good_table rank signed_rank log_under all_free free enter codes_of msb
house_book_lem = by_test house_book refl

pub length_house_book : length house_book ≡ book_bytes
unfolding house_book
length_house_book = length_house book_entries 0

-- ---- the codebook
pub length_house_codebook : length house_codebook ≡ codebook_bytes
unfolding house_codebook
length_house_codebook = length_values (λ i. signed_byte (house_sample i)) codebook_bytes 0

-- at each place the byte of the rule
pub house_sample_at : (i : ℕ) → i < codebook_bytes → get_or house_codebook i 0 ≡ signed_byte (house_sample i)
unfolding house_codebook
house_sample_at i h =
    value_at (λ i. signed_byte (house_sample i)) codebook_bytes 0 i 0 h ∙ ap (λ (k : ℕ). signed_byte (house_sample k)) (zero-add i)

-- and so its number: the rule's numbers are -30 to 30, which a byte holds
small_sample : (m : ℕ) → m < 61 → mag (sub_ℕ m 30) < 128
small_sample m h = elim (dec_lt m 30) [ yes a ↦ rw (lt-ltb m 30 a) (omega arith) | no a ↦ rw (le-ltb m 30 (omega arith)) (omega arith) ]

pub sample_small : (i : ℕ) → mag (house_sample i) < 128
sample_small i = small_sample ((37 * i + i / 16) % 61) (omega arith)

pub house_number_at : (i : ℕ) → i < codebook_bytes → signed_of (get_or house_codebook i 0) ≡ house_sample i
house_number_at i h = rw (house_sample_at i h) (byte_back (house_sample i) (sample_small i))

-- the byte, from the sample raised by 30
pub low_byte : (m : ℕ) → m < 30 → 226 + m ≡ signed_byte (sub_ℕ m 30)
low_byte m h = rw (lt-ltb m 30 h) (omega arith)

pub high_byte : (m : ℕ) → 30 ≤ m → m - 30 ≡ signed_byte (sub_ℕ m 30)
high_byte m h = rw (le-ltb m 30 h)
