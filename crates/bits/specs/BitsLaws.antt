-- Laws of bit lists: what bits put into a byte slice come to. Upper layers cite put-nil, put-put, put-length and the lengths.
use Rattle.std.specs.Prelude.{ℕ, zero, suc, ◌+◌, ◌-◌, ◌*◌, ◌/◌, ◌%◌, ◌^◌, ◌≤◌, ◌<◌, ◌≡◌, refl, List, [], ◌∷◌, ◌++◌, length, take, drop, get_or, set, replicate}
use Rattle.std.proofs.Common.{sym, ap, ◌∙◌, subst, append_assoc, append-nil, add-zero, zero-add, suc-add, add_comm, mul_assoc, arith, length-append, length-drop, take-append-drop, take_at, drop_at, length-take-le, drop-drop, shr-shr, pow_pos, pow-add, shl_lt, shr_lt}
use Rattle.std.proofs.Math.Nat.{pow-succ', mul-add-div_right, zero-div}
use Rattle.std.proofs.lemmas.List.{length-replicate, set_split}
use Rattle.std.proofs.Math.Seq.{split_at, drop-append-add, drop-append_seam}
use Rattle.std.proofs.Math.Pow.{high, split}
use Rattle.std.proofs.lemmas.Nat.{shl-shr}
use Rattle.std.proofs.Math.Arith.{digits_lt}
use Rattle.bits.specs.Bits.{msb, bits_of, byte_end, cleared, after_bits, put_bits}

pub length_msb : (w v : ℕ) → length (msb w v) ≡ w
unfolding msb
length_msb zero v = refl
length_msb (suc w) v = ap suc (length_msb w v)

pub length_bits_of : (s : List ℕ) → length (bits_of s) ≡ 8 * length s
unfolding bits_of
length_bits_of [] = refl
length_bits_of (b ∷ bs) = simp (length-append, length_msb) (omega (arith, length_bits_of bs))

pub bits_of-append : (s t : List ℕ) → bits_of (s ++ t) ≡ bits_of s ++ bits_of t
unfolding bits_of
bits_of-append [] t = refl
bits_of-append (b ∷ bs) t = simp (bits_of-append bs t, append_assoc)

-- a number's bits, in two parts
pub msb_split : (a b v : ℕ) → msb (a + b) v ≡ msb a (v / 2 ^ b) ++ msb b v
unfolding msb
msb_split zero b v = rw zero-add
msb_split (suc a) b v = rw (suc-add, shr-shr v b a, add_comm b a) (ap (λ (l : List ℕ). v / 2 ^ (a + b) % 2 ∷ l) (msb_split a b v))

-- what stands above bit b is not seen
pub msb_low : (b h l : ℕ) → msb b (h * 2 ^ b + l) ≡ msb b l
unfolding msb
msb_low zero h l = refl
msb_low (suc b) h l =
    let e : h * 2 ^ suc b ≡ h * 2 * 2 ^ b = rw (pow-succ' 2 b, mul_assoc h 2 (2 ^ b)) in
    let d : (h * 2 * 2 ^ b + l) / 2 ^ b ≡ h * 2 + l / 2 ^ b = mul-add-div_right (pow_pos b) (h * 2) l in
    let m : (h * 2 + l / 2 ^ b) % 2 ≡ l / 2 ^ b % 2 = omega arith in
    rw (e, d, m, msb_low b (h * 2) l)

pub msb_zero : (b : ℕ) → msb b 0 ≡ replicate b 0
unfolding msb
msb_zero zero = refl
msb_zero (suc b) = rw (zero-div (2 ^ b), msb_zero b)

laid : List ℕ → ℕ → List ℕ → List ℕ
laid bs at xs = take at bs ++ (xs ++ cleared bs (at + length xs))

-- what stands where put_bits writes: A up to bit at, then L to the end of the byte, then T
laid_at : (A L T xs : List ℕ) (at z : ℕ) → length A ≡ at → length L ≡ length xs + z → byte_end (at + length xs) ≡ at + length L
    → laid (A ++ (L ++ T)) at xs ≡ A ++ (xs ++ (replicate z 0 ++ T))
unfolding laid cleared
laid_at A L T xs at z ha hl he =
    let hz : byte_end (at + length xs) - (at + length xs) ≡ z = omega arith in
    let hd : drop (byte_end (at + length xs)) (A ++ (L ++ T)) ≡ T =
    rw (he, ← append_assoc A L T) (drop_at (A ++ L) T (at + length L) (rw length-append (omega arith))) in
    rw (hz, hd, take_at A (L ++ T) at ha)

-- two runs of bits, one after the other, are one run
laid-laid : (bs xs ys : List ℕ) (at : ℕ) → at ≤ length bs → laid (laid bs at xs) (at + length xs) ys ≡ laid bs at (xs ++ ys)
unfolding laid cleared
laid-laid bs xs ys at h =
    let n : ℕ = at + length xs in
    let m : ℕ = n + length ys in
    let A : List ℕ = take at bs in
    let Z : List ℕ = replicate (byte_end n - n) 0 in
    let D : List ℕ = drop (byte_end n) bs in
    let ha : length A ≡ at = length-take-le at bs h in
    let hx : length (A ++ xs) ≡ n = rw (length-append, ha) in
    let hz : length (A ++ (xs ++ Z)) ≡ byte_end n = simp (length-append, ha, length-replicate) (omega arith) in
    let ht : take n (A ++ (xs ++ (Z ++ D))) ≡ A ++ xs = rw (← append_assoc A xs (Z ++ D)) (take_at (A ++ xs) (Z ++ D) n hx) in
    let hm : byte_end m ≡ length (A ++ (xs ++ Z)) + (byte_end m - byte_end n) = omega arith in
    let back : byte_end n + (byte_end m - byte_end n) ≡ byte_end m = omega arith in
    let hd : drop (byte_end m) (A ++ (xs ++ (Z ++ D))) ≡ drop (byte_end m) bs =
    rw (← append_assoc xs Z D, ← append_assoc A (xs ++ Z) D)
    (ap (λ (k : ℕ). drop k ((A ++ (xs ++ Z)) ++ D)) hm
    ∙ drop-append-add (A ++ (xs ++ Z)) D (byte_end m - byte_end n)
    ∙ drop-drop (byte_end m - byte_end n) (byte_end n) bs
    ∙ ap (λ (k : ℕ). drop k bs) back) in
    let hl : at + length (xs ++ ys) ≡ m = rw length-append (omega arith) in
    rw (ht, hd, hl) (simp append_assoc)

-- no bits change nothing
pub put_nil : (bs : List ℕ) (at : ℕ) → put_bits bs at [] ≡ bs
unfolding put_bits after_bits
put_nil bs at = take-append-drop at bs

put_some : (bs xs : List ℕ) (at : ℕ) → 0 < length xs → put_bits bs at xs ≡ laid bs at xs
unfolding put_bits after_bits laid
put_some bs [] at h = absurd (omega arith)
put_some bs (x ∷ xs) at h = refl

-- two runs of bits, one after the other, are one run
pub put_put : (bs xs ys : List ℕ) (at : ℕ) → at ≤ length bs → put_bits (put_bits bs at xs) (at + length xs) ys ≡ put_bits bs at (xs ++ ys)
put_put bs [] ys at h = rw (put_nil bs at, add-zero at)
put_put bs (x ∷ xs) [] at h = put_nil _ _ ∙ ap (put_bits bs at) (sym (append-nil (x ∷ xs)))
put_put bs (x ∷ xs) (y ∷ ys) at h =
    rw (put_some bs (x ∷ xs) at (omega arith), put_some (laid bs at (x ∷ xs)) (y ∷ ys) (at + length (x ∷ xs)) (omega arith), put_some bs (x ∷ (xs ++ (y ∷ ys))) at (omega arith))
    (laid-laid bs (x ∷ xs) (y ∷ ys) at h)

-- the byte that keeps the first r bits of b, and has n bits of v and then z zeros
pub byte_bits : (b r n z v : ℕ) → v < 2 ^ n
    → msb (r + (n + z)) (b / 2 ^ (n + z) * 2 ^ (n + z) + v * 2 ^ z) ≡ msb r (b / 2 ^ (n + z)) ++ (msb n v ++ replicate z 0)
byte_bits b r n z v hv =
    let lo : v * 2 ^ z < 2 ^ (n + z) = shl_lt n z hv in
    let hz : msb z (v * 2 ^ z) ≡ replicate z 0 = ap (msb z) (sym (add-zero (v * 2 ^ z))) ∙ msb_low z v 0 ∙ msb_zero z in
    rw (msb_split r (n + z), high (b / 2 ^ (n + z)) (n + z) lo, msb_low (n + z), msb_split n z, shl-shr v z, hz)

-- such a byte in a list of bytes is n bits put at bit r of it
pub put_byte : (p t : List ℕ) (b r n z v : ℕ) → r + (n + z) ≡ 8 → 0 < n → v < 2 ^ n
    → bits_of (p ++ (b / 2 ^ (n + z) * 2 ^ (n + z) + v * 2 ^ z) ∷ t) ≡ put_bits (bits_of (p ++ b ∷ t)) (8 * length p + r) (msb n v)
unfolding bits_of
put_byte p t b r n z v e h hv =
    let P : List ℕ = bits_of p in
    let H : List ℕ = msb r (b / 2 ^ (n + z)) in
    let L : List ℕ = msb (n + z) b in
    let W : List ℕ = msb n v in
    let Z : List ℕ = replicate z 0 in
    let T : List ℕ = bits_of t in
    let new : msb 8 (b / 2 ^ (n + z) * 2 ^ (n + z) + v * 2 ^ z) ≡ H ++ (W ++ Z) =
    subst (λ (k : ℕ). msb k (b / 2 ^ (n + z) * 2 ^ (n + z) + v * 2 ^ z) ≡ H ++ (W ++ Z)) e (byte_bits b r n z v hv) in
    let old : msb 8 b ≡ H ++ L = subst (λ (k : ℕ). msb k b ≡ H ++ L) e (msb_split r (n + z) b) in
    let hp : length (P ++ H) ≡ 8 * length p + r = simp (length-append, length_msb, length_bits_of) in
    let he : byte_end (8 * length p + r + length W) ≡ 8 * length p + r + length L = simp length_msb (omega arith) in
    rw (
      bits_of-append p (b ∷ t),
      bits_of-append p ((b / 2 ^ (n + z) * 2 ^ (n + z) + v * 2 ^ z) ∷ t),
      new,
      old,
      append_assoc H L T,
      ← append_assoc P H (L ++ T),
      put_some ((P ++ H) ++ (L ++ T)) W (8 * length p + r) (simp length_msb h),
      laid_at (P ++ H) L T W (8 * length p + r) z hp (simp length_msb) he,
    )
    (simp append_assoc)

-- the same at an index of a list of bytes
pub put_set : (s : List ℕ) (q r n z v : ℕ) → q < length s → r + (n + z) ≡ 8 → 0 < n → v < 2 ^ n
    → bits_of (set s q (get_or s q 0 / 2 ^ (n + z) * 2 ^ (n + z) + v * 2 ^ z)) ≡ put_bits (bits_of s) (8 * q + r) (msb n v)
put_set s q r n z v hq e h hv =
    let p : List ℕ = take q s in
    let hp : length p ≡ q = length-take-le q s (omega arith) in
    let k : put_bits (bits_of (p ++ get_or s q 0 ∷ drop (suc q) s)) (8 * length p + r) (msb n v) ≡ put_bits (bits_of s) (8 * q + r) (msb n v) =
    rw (hp, ← split_at s q 0 hq) in
    rw (set_split s q _ hq) (put_byte p (drop (suc q) s) (get_or s q 0) r n z v e h hv ∙ k)

-- only a number's low bits count
pub msb_mod : (n x : ℕ) → msb n (x % 2 ^ n) ≡ msb n x
msb_mod n x = sym (msb_low n (x / 2 ^ n) (x % 2 ^ n)) ∙ ap (msb n) (split x n)

-- of w bits of v all but the last l are written; the next n of them are added
pub put_more : (bs : List ℕ) (at w l n v : ℕ) → n ≤ l → l ≤ w → at ≤ length bs
    → put_bits (put_bits bs at (msb (w - l) (v / 2 ^ l))) (at + (w - l)) (msb n (v / 2 ^ (l - n) % 2 ^ n)) ≡ put_bits bs at (msb (w - (l - n)) (v / 2 ^ (l - n)))
put_more bs at w l n v hn hl h =
    let X : List ℕ = msb (w - l) (v / 2 ^ l) in
    let Y : List ℕ = msb n (v / 2 ^ (l - n)) in
    let back : l - n + n ≡ l = omega arith in
    let k : w - (l - n) ≡ w - l + n = omega arith in
    let two : msb (w - (l - n)) (v / 2 ^ (l - n)) ≡ X ++ Y = rw (k, msb_split (w - l) n (v / 2 ^ (l - n)), shr-shr v (l - n) n, back) in
    let one : put_bits (put_bits bs at X) (at + (w - l)) Y ≡ put_bits bs at (X ++ Y) =
    subst (λ (m : ℕ). put_bits (put_bits bs at X) (at + m) Y ≡ put_bits bs at (X ++ Y)) (length_msb (w - l) (v / 2 ^ l)) (put_put bs X Y at h) in
    rw (msb_mod n (v / 2 ^ (l - n)), two) one

-- a turn of writing w bits of v: l were left, and the next n of them are put at bit p
pub put_turn : (bs out next : List ℕ) (at w l n v p part : ℕ) → n ≤ l → l ≤ w → at ≤ length bs → p + l ≡ at + w
    → out ≡ put_bits bs at (msb (w - l) (v / 2 ^ l)) → part ≡ v / 2 ^ (l - n) % 2 ^ n → next ≡ put_bits out p (msb n part)
    → next ≡ put_bits bs at (msb (w - (l - n)) (v / 2 ^ (l - n)))
put_turn bs out next at w l n v p part hn hl h hp before now-part written =
    let here : p ≡ at + (w - l) = omega arith in
    written ∙ rw (now-part, here, before) (put_more bs at w l n v hn hl h)

-- the sum of a byte's high bits and lower ones is a byte
pub byte_lt : (b k x : ℕ) → b < 256 → k ≤ 8 → x < 2 ^ k → b / 2 ^ k * 2 ^ k + x < 256
byte_lt b k x hb hk hx =
    let e : 8 - k + k ≡ 8 = omega arith in
    let hq : b / 2 ^ k < 2 ^ (8 - k) = shr_lt (8 - k) k (rw e hb) in
    let whole : 2 ^ (8 - k) * 2 ^ k ≡ 256 = sym (pow-add 2 (8 - k) k) ∙ ap (λ (n : ℕ). 2 ^ n) e in
    rw whole at (digits_lt hq hx)

-- where the writing of w bits begins, and where it ends
pub put_first_lem : (bs : List ℕ) (at w v : ℕ) → bs ≡ put_bits bs at (msb (w - w) v)
unfolding msb
put_first_lem bs at w v =
    let z : w - w ≡ 0 = omega arith in
    rw z (sym (put_nil bs at))

pub put_last : (bs : List ℕ) (at w l v : ℕ) → l ≤ 0 → put_bits bs at (msb (w - l) (v / 2 ^ l)) ≡ put_bits bs at (msb w v)
put_last bs at w l v h =
    let z : l ≡ 0 = omega arith in
    let k : w - 0 ≡ w = omega arith in
    let d : v / 2 ^ 0 ≡ v = omega arith in
    rw (z, k, d)

-- ---- what stands in the bits once xs are put at bit `at`
-- from there on come xs
pub drop_put : (bs xs : List ℕ) (at : ℕ) → at ≤ length bs → drop at (put_bits bs at xs) ≡ xs ++ after_bits bs at xs
unfolding put_bits
drop_put bs xs at h = drop_at (take at bs) _ at (length-take-le at bs h)

-- what stands behind xs is met at the bit behind xs
pub drop_after : (bs xs ys : List ℕ) (at : ℕ) → at ≤ length bs
    → drop (at + length xs) (put_bits bs at (xs ++ ys)) ≡ ys ++ after_bits bs at (xs ++ ys)
drop_after bs xs ys at h =
    sym (drop-drop (length xs) at (put_bits bs at (xs ++ ys)))
    ∙ ap (drop (length xs)) (drop_put bs (xs ++ ys) at h ∙ append_assoc xs ys _)
    ∙ drop-append_seam xs _

-- putting bits that fit keeps the length of whole bytes
pub put_length : (bs xs : List ℕ) (at : ℕ) → length bs % 8 ≡ 0 → at + length xs ≤ length bs → length (put_bits bs at xs) ≡ length bs
unfolding put_bits after_bits cleared
put_length bs [] at w h = ap length (take-append-drop at bs)
put_length bs (x ∷ xs) at w h =
    let n : ℕ = at + length (x ∷ xs) in
    let whole : byte_end n ≤ length bs = omega arith in
    simp (length-append, length-take-le at bs (omega arith), length-replicate, length-drop) (omega arith)

-- the bits of a list of bytes are whole bytes
pub bits_whole : (s : List ℕ) → length (bits_of s) % 8 ≡ 0
bits_whole s = rw length_bits_of (omega arith)
