-- Laws of reading bits: a run of bits as a number, and the bits of a list of bytes from a bit on. Upper layers cite bytes_same, valOf-msb and run-lt.
use Rattle.std.specs.Prelude.{ℕ, zero, suc, ◌+◌, ◌*◌, ◌/◌, ◌%◌, ◌^◌, ◌≤◌, ◌<◌, min, ◌≡◌, refl, Bool, true, false, List, [], ◌∷◌, ◌++◌, leb, length, take, drop, get_or}
use Rattle.std.proofs.Common.{sym, ap, ◌∙◌, subst, append_assoc, mul_assoc, add-mul, one-add, arith, length-append, length-drop, take_at, drop_at, length-take-le, drop-drop, take-add, take_all, pow-add, leb-true, leb-false}
use Rattle.std.proofs.Math.Nat.{pow-succ'}
use Rattle.std.proofs.Math.Seq.{split_at, take-length}
use Rattle.std.proofs.lemmas.Nat.{mod-pow-add}
use Rattle.std.proofs.Math.Pow.{high}
use Rattle.std.proofs.Math.Arith.{digits_lt}
use Rattle.bits.specs.Bits.{msb, val_of, bits_of}
use Rattle.bits.specs.BitsLaws.{bits_of-append, msb_split, msb_low, length_msb, length_bits_of}

pub val_of-append : (xs ys : List ℕ) → val_of (xs ++ ys) ≡ val_of xs * 2 ^ length ys + val_of ys
unfolding val_of
val_of-append [] ys = omega arith
val_of-append (x ∷ xs) ys =
    rw (val_of-append xs ys, length-append xs ys, pow-add 2 (length xs) (length ys), add-mul, mul_assoc) (omega arith)

pub val_of-msb : (w v : ℕ) → val_of (msb w v) ≡ v % 2 ^ w
unfolding val_of msb
val_of-msb zero v = omega arith
val_of-msb (suc w) v =
    let two : v % 2 ^ suc w ≡ v / 2 ^ w % 2 * 2 ^ w + v % 2 ^ w = subst (λ (m : ℕ). v % 2 ^ m ≡ v / 2 ^ w % 2 * 2 ^ w + v % 2 ^ w) (one-add w) (mod-pow-add v 1 w) in
    rw (length_msb w v, val_of-msb w v, two)

-- k bits within one byte
pub part_bits : (s : List ℕ) (q r k z : ℕ) → q < length s → r + (k + z) ≡ 8 → take k (drop (8 * q + r) (bits_of s)) ≡ msb k (get_or s q 0 / 2 ^ z)
unfolding bits_of
part_bits s q r k z hq e =
    let b : ℕ = get_or s q 0 in
    let P : List ℕ = bits_of (take q s) in
    let H : List ℕ = msb r (b / 2 ^ (k + z)) in
    let K : List ℕ = msb k (b / 2 ^ z) in
    let R : List ℕ = msb z b ++ bits_of (drop (suc q) s) in
    let byte : msb 8 b ≡ H ++ (K ++ msb z b) =
    subst (λ (n : ℕ). msb n b ≡ H ++ (K ++ msb z b)) e (rw (msb_split r (k + z) b, msb_split k z b)) in
    let whole : bits_of s ≡ (P ++ H) ++ (K ++ R) =
    ap bits_of (split_at s q 0 hq) ∙ bits_of-append (take q s) (b ∷ drop (suc q) s) ∙ rw byte (simp append_assoc) in
    let hp : length (P ++ H) ≡ 8 * q + r = rw (length-append P H, length_bits_of (take q s), length-take-le q s (omega arith), length_msb r (b / 2 ^ (k + z))) in
    rw (whole, drop_at (P ++ H) (K ++ R) (8 * q + r) hp) (take_at K R k (length_msb k (b / 2 ^ z)))

-- the bits from bit at on: n of them and then k more, within a byte
pub more_bits : (s : List ℕ) (at n q r k z : ℕ) → at + n ≡ 8 * q + r → q < length s → r + (k + z) ≡ 8
    → val_of (take (n + k) (drop at (bits_of s))) ≡ val_of (take n (drop at (bits_of s))) * 2 ^ k + get_or s q 0 / 2 ^ z % 2 ^ k
more_bits s at n q r k z h hq e =
    let K : List ℕ = msb k (get_or s q 0 / 2 ^ z) in
    let last : take k (drop n (drop at (bits_of s))) ≡ K = rw (drop-drop n at (bits_of s), h) (part_bits s q r k z hq e) in
    rw (take-add n k (drop at (bits_of s)), last, val_of-append (take n (drop at (bits_of s))) K, length_msb k (get_or s q 0 / 2 ^ z), val_of-msb k (get_or s q 0 / 2 ^ z))

-- each is 0 or 1
abbrev pub AreBits : List ℕ → Type 0
AreBits [] = Unit
AreBits (x ∷ xs) = (x < 2) × AreBits xs

bits_append : (xs ys : List ℕ) → AreBits xs → AreBits ys → AreBits (xs ++ ys)
bits_append [] ys h k = k
bits_append (x ∷ xs) ys h k = (h.0, bits_append xs ys h.1 k)

bits_take : (n : ℕ) (xs : List ℕ) → AreBits xs → AreBits (take n xs)
bits_take zero xs h = tt
bits_take (suc n) [] h = tt
bits_take (suc n) (x ∷ xs) h = (h.0, bits_take n xs h.1)

bits_drop : (n : ℕ) (xs : List ℕ) → AreBits xs → AreBits (drop n xs)
bits_drop zero xs h = h
bits_drop (suc n) [] h = tt
bits_drop (suc n) (x ∷ xs) h = bits_drop n xs h.1

bits_msb : (w v : ℕ) → AreBits (msb w v)
unfolding msb
bits_msb zero v = tt
bits_msb (suc w) v = (omega arith, bits_msb w v)

bits_of_lem : (s : List ℕ) → AreBits (bits_of s)
unfolding bits_of
bits_of_lem [] = tt
bits_of_lem (b ∷ s) = bits_append (msb 8 b) (bits_of s) (bits_msb 8 b) (bits_of_lem s)

val_of_lt : (xs : List ℕ) → AreBits xs → val_of xs < 2 ^ length xs
unfolding val_of
val_of_lt [] h = omega arith
val_of_lt (x ∷ xs) h = rw (pow-succ' 2 (length xs)) (digits_lt h.0 (val_of_lt xs h.1))

msb-val_of : (xs : List ℕ) → AreBits xs → msb (length xs) (val_of xs) ≡ xs
unfolding val_of msb
msb-val_of [] h = refl
msb-val_of (x ∷ xs) h =
    let m : x % 2 ≡ x = let l : x < 2 = h.0 in omega arith in
    rw (high x (length xs) (val_of_lt xs h.1), m, msb_low (length xs) x (val_of xs), msb-val_of xs h.1)

-- n bits of a list of bytes and their number
module _ (s : List ℕ) (at n : ℕ) (h : at + n ≤ 8 * length s) where
  run_length : length (take n (drop at (bits_of s))) ≡ n
  run_length = length-take-le n (drop at (bits_of s)) (rw (length-drop at (bits_of s), length_bits_of s) (omega arith))

  run_bits : AreBits (take n (drop at (bits_of s)))
  run_bits = bits_take n (drop at (bits_of s)) (bits_drop at (bits_of s) (bits_of_lem s))

  pub run_lt : val_of (take n (drop at (bits_of s))) < 2 ^ n
  run_lt = subst (λ (k : ℕ). val_of (take n (drop at (bits_of s))) < 2 ^ k) run_length (val_of_lt (take n (drop at (bits_of s))) run_bits)

  pub run-msb : msb n (val_of (take n (drop at (bits_of s)))) ≡ take n (drop at (bits_of s))
  run-msb = subst (λ (k : ℕ). msb k (val_of (take n (drop at (bits_of s)))) ≡ take n (drop at (bits_of s))) run_length (msb-val_of (take n (drop at (bits_of s))) run_bits)

-- lists of bytes with the same bits are the same: an equation of bits says every byte
pub bytes_same : (s t : List ℕ) → ((k : ℕ) → get_or s k 0 < 256) → ((k : ℕ) → get_or t k 0 < 256) → bits_of s ≡ bits_of t → s ≡ t
unfolding bits_of
bytes_same [] [] hs ht e = refl
bytes_same [] (b ∷ t) hs ht e = absurd (omega (arith, ap length e, length_bits_of (b ∷ t)))
bytes_same (a ∷ s) [] hs ht e = absurd (omega (arith, ap length e, length_bits_of (a ∷ s)))
bytes_same (a ∷ s) (b ∷ t) hs ht e =
    let first : msb 8 a ≡ msb 8 b = sym (take_at (msb 8 a) (bits_of s) 8 (length_msb 8 a)) ∙ ap (take 8) e ∙ take_at (msb 8 b) (bits_of t) 8 (length_msb 8 b) in
    let rest : bits_of s ≡ bits_of t = sym (drop_at (msb 8 a) (bits_of s) 8 (length_msb 8 a)) ∙ ap (drop 8) e ∙ drop_at (msb 8 b) (bits_of t) 8 (length_msb 8 b) in
    let val : a % 256 ≡ b % 256 = sym (val_of-msb 8 a) ∙ ap val_of first ∙ val_of-msb 8 b in
    let ha : a < 256 = hs 0 in
    let hb : b < 256 = ht 0 in
    let same : a ≡ b = omega arith in
    rw same (ap (λ (l : List ℕ). b ∷ l) (bytes_same s t (λ k. hs (suc k)) (λ k. ht (suc k)) rest))

-- what is read at most n bits ahead
pub take_min : (n : ℕ) (l : List ℕ) → take (min n (length l)) l ≡ take n l
take_min n l = go (leb (length l) n) refl
  where
    go : (b : Bool) → leb (length l) n ≡ b → take (min n (length l)) l ≡ take n l
    go true e =
        let h = leb-true (length l) n e in
        let m : min n (length l) ≡ length l = omega arith in
        rw m (take-length l ∙ sym (take_all n l h))
    go false e =
        let h = leb-false (length l) n e in
        let m : min n (length l) ≡ n = omega arith in
        rw m
