-- Laws of a table's longest code: no code is longer, a part of the table has none longer, and in a table that passes it has at most 32 bits.
-- Assumes nothing.
use Rattle.std.specs.Prelude.{ℕ, zero, suc, ◌+◌, ◌*◌, ◌/◌, ◌≤◌, ◌<◌, max, ◌≡◌, refl, true, ◌&&◌, List, [], ◌∷◌, leb, length, take, drop}
use Rattle.std.proofs.Common.{arith, le_trans, length-take, length-drop, leb-true}
use Rattle.std.proofs.Math.Seq.{take-nil, drop-nil}
use Rattle.bits.specs.BasicsLaws.{both_true}
use Rattle.bits.specs.BitsLaws.{length_msb}
use Rattle.code_tables.specs.Codes.{code, codes_of, code_len, good_entry, good_table}
use Rattle.book.specs.Book.{entries}
use Rattle.plane_room.specs.Room.{longest}

-- no code of the table is longer; where there is no code there are no bits
pub code-longest : (t : List ℕ) (k : ℕ) → length (code (codes_of t) k) ≤ longest t
unfolding codes_of longest
code-longest [] k = omega arith
code-longest (h ∷ []) k = omega arith
code-longest (h ∷ l ∷ []) k = omega arith
code-longest (h ∷ l ∷ n ∷ t) zero = omega (arith, length_msb n (h * 256 + l))
code-longest (h ∷ l ∷ n ∷ t) (suc k) = omega (arith, code-longest t k)

-- less than an entry has no code
short_none : (t : List ℕ) → length t < 3 → longest t ≡ 0
unfolding longest
short_none [] h = refl
short_none (a ∷ []) h = refl
short_none (a ∷ b ∷ []) h = refl
short_none (a ∷ b ∷ c ∷ t) h = absurd (omega arith)

-- whole entries taken from either end have none longer
take_longest : (t : List ℕ) (n : ℕ) → longest (take (3 * n) t) ≤ longest t
unfolding longest
take_longest t zero = omega arith
take_longest [] (suc n) = rw (take-nil (3 * suc n)) (omega arith)
take_longest (h ∷ []) (suc n) = rw (short_none (take (3 * suc n) (h ∷ [])) (rw length-take (omega arith))) (omega arith)
take_longest (h ∷ l ∷ []) (suc n) = rw (short_none (take (3 * suc n) (h ∷ l ∷ [])) (rw length-take (omega arith))) (omega arith)
take_longest (h ∷ l ∷ m ∷ t) (suc n) =
    let k : 3 * suc n ≡ suc (suc (suc (3 * n))) = omega arith in
    rw k (omega (arith, take_longest t n))

drop_longest : (t : List ℕ) (n : ℕ) → longest (drop (3 * n) t) ≤ longest t
unfolding longest
drop_longest t zero = omega arith
drop_longest [] (suc n) = rw (drop-nil (3 * suc n)) (omega arith)
drop_longest (h ∷ []) (suc n) = rw (short_none (drop (3 * suc n) (h ∷ [])) (rw length-drop (omega arith))) (omega arith)
drop_longest (h ∷ l ∷ []) (suc n) = rw (short_none (drop (3 * suc n) (h ∷ l ∷ [])) (rw length-drop (omega arith))) (omega arith)
drop_longest (h ∷ l ∷ m ∷ t) (suc n) =
    let k : 3 * suc n ≡ suc (suc (suc (3 * n))) = omega arith in
    rw k (omega (arith, drop_longest t n))

pub part-longest : (from n : ℕ) (t : List ℕ) → longest (entries from n t) ≤ longest t
part-longest from n t = le_trans (take_longest (drop (3 * from) t) n) (drop_longest t from)

-- a table that passes has lengths of 1 to 32
pub good_longest : (t : List ℕ) → good_table t ≡ true → longest t ≤ 32
unfolding good_table longest
good_longest [] e = omega arith
good_longest (h ∷ []) e = omega arith
good_longest (h ∷ l ∷ []) e = omega arith
good_longest (h ∷ l ∷ n ∷ t) e =
    let two = both_true (good_entry (h * 256 + l) n) (good_table t) e in
    let own = both_true (leb 1 n && leb n 32) _ two.0 in
    omega (arith, leb-true n 32 (both_true (leb 1 n) (leb n 32) own.0).1, good_longest t two.1)

-- ---- a loop over the entries
-- one entry more
pub longest-step : (t : List ℕ) (i : ℕ) → i < length t / 3 → longest (drop (3 * i) t) ≡ max (code_len t i) (longest (drop (3 * (i + 1)) t))
unfolding longest
longest-step [] i lt = absurd (omega arith)
longest-step (h ∷ []) i lt = absurd (omega arith)
longest-step (h ∷ l ∷ []) i lt = absurd (omega arith)
longest-step (h ∷ l ∷ n ∷ t) zero lt = refl
longest-step (h ∷ l ∷ n ∷ t) (suc i) lt =
    let here : 3 * suc i ≡ suc (suc (suc (3 * i))) = omega arith in
    let own : 3 * suc i + 2 ≡ suc (suc (suc (3 * i + 2))) = omega arith in
    let next : 3 * (suc i + 1) ≡ suc (suc (suc (3 * (i + 1)))) = omega arith in
    rw (own, next, here) (longest-step t i (omega arith))

-- behind the last entry
pub longest_end : (t : List ℕ) (i : ℕ) → length t / 3 ≤ i → longest (drop (3 * i) t) ≡ 0
longest_end t i h = short_none (drop (3 * i) t) (rw length-drop (omega arith))

-- a turn: the longest so far and the longest from entry i on are the table's
pub longest_turn : (t : List ℕ) (i most : ℕ) → i < length t / 3 → max most (longest (drop (3 * i) t)) ≡ longest t
    → max (max most (code_len t i)) (longest (drop (3 * (i + 1)) t)) ≡ longest t
longest_turn t i most h e = omega (arith, longest-step t i h)

pub longest_last : (t : List ℕ) (i most : ℕ) → length t / 3 ≤ i → max most (longest (drop (3 * i) t)) ≡ longest t → most ≡ longest t
longest_last t i most h e = omega (arith, longest_end t i h)
