-- Laws of the house book's rules, in the steps in which the code follows them. Assumes nothing.
use Rattle.std.specs.Prelude.{ℕ, zero, suc, ◌+◌, ◌-◌, ◌*◌, ◌/◌, ◌^◌, ◌≤◌, ◌<◌, ◌≡◌, refl, List, ◌++◌, length}
use Rattle.std.proofs.Common.{sym, ap, ◌∙◌, add-one, arith, lt-ltb, le-ltb}
use Rattle.std.proofs.Math.Nat.{pow-succ'}
use Rattle.std.proofs.Math.IntN.{sub_ℕ}
use lib.Pow.{pow_pos}
use Rattle.std.proofs.lemmas.List.Edits.{sets}
use Rattle.bits.specs.FillLaws.{sets_append}
use Rattle.house.specs.House.{log_under, signed_rank, house_entry, house_from}
use Rattle.house.specs.HouseLaws.{length_house, house_more}

-- ---- the logarithm
-- a number above 1 has one more than its half
log_half : (f m : ℕ) → 1 < m → log_under (suc f) m ≡ suc (log_under f (m / 2))
unfolding log_under
log_half f m h = rw (le-ltb m 2 (omega arith))

pub log_turn : (f m : ℕ) → 1 < m → m < 2 ^ f → (1 ≤ f) × (log_under f m ≡ 1 + log_under (f - 1) (m / 2)) × (m / 2 < 2 ^ (f - 1))
log_turn zero m h k = absurd (omega arith)
log_turn (suc f) m h k =
    let e : 2 ^ suc f ≡ 2 * 2 ^ f = pow-succ' 2 f in
    let z : suc f - 1 ≡ f = omega arith in
    rw z (omega arith, log_half f m h ∙ omega arith, omega arith)

pub log_last : (f m : ℕ) → m ≤ 1 → log_under f m ≡ 0
unfolding log_under
log_last zero m h = refl
log_last (suc f) m h = rw (lt-ltb m 2 (omega arith))

-- the number that std's `ilog2` answers
pub log_is : (f n r : ℕ) → n < 2 ^ f → 2 ^ r ≤ n → n < 2 * 2 ^ r → r ≡ log_under f n
unfolding log_under
log_is zero n r h a b = absurd (omega (arith, pow_pos r))
log_is (suc f) n zero h a b = rw (lt-ltb n 2 (omega arith))
log_is (suc f) n (suc r) h a b =
    let e : 2 ^ suc f ≡ 2 * 2 ^ f = pow-succ' 2 f in
    let d : 2 ^ suc r ≡ 2 * 2 ^ r = pow-succ' 2 r in
    let one : 1 ≤ 2 ^ r = pow_pos r in
    ap suc (log_is f (n / 2) r (omega arith) (omega arith) (omega arith)) ∙ sym (log_half f n (omega arith))

-- ---- the rank of a signed number, by its position and that of 0
pub rank_above : (p z : ℕ) → z < p → 2 * (p - z) - 1 ≡ signed_rank (sub_ℕ p z)
unfolding signed_rank
rank_above p z h =
    let e : p - z ≡ suc (p - suc z) = omega arith in
    rw (le-ltb p z (omega arith), e)

pub rank_rest : (p z : ℕ) → p ≤ z → 2 * (z - p) ≡ signed_rank (sub_ℕ p z)
unfolding signed_rank
rank_rest p z h = go (z - p) refl
  where
    go : (d : ℕ) → z - p ≡ d → 2 * (z - p) ≡ signed_rank (sub_ℕ p z)
    go zero q = let e : p - z ≡ 0 = omega arith in rw (le-ltb p z (omega arith), e, q)
    go (suc d) q = let e : suc (z - suc p) ≡ z - p = omega arith in rw (lt-ltb p z (omega arith), e)

-- ---- the entries one behind the other
-- one more entry put behind those that stand there
pub entry_put : (o : List ℕ) (e : ℕ) → sets (sets o 0 (house_from e 0)) (3 * e) (house_entry e) ≡ sets o 0 (house_from (e + 1) 0)
entry_put o e =
    let z : 0 + e ≡ e = omega arith in
    let long : 0 + length (house_from e 0) ≡ 3 * e = omega (arith, length_house e 0) in
    let one : house_from (e + 1) 0 ≡ house_from e 0 ++ house_entry e =
    ap (λ (n : ℕ). house_from n 0) (add-one e) ∙ house_more e 0 ∙ ap (λ (k : ℕ). house_from e 0 ++ house_entry k) z in
    sym (ap (sets o 0) one ∙ sets_append o 0 (house_from e 0) (house_entry e) ∙ ap (λ (k : ℕ). sets (sets o 0 (house_from e 0)) k (house_entry e)) long)
