-- Laws of raised numbers: differences, a vector's sample added, a vector of zeros, the first of the least, the mean, and vectors added in place.
-- Assumes nothing.
use Rattle.std.specs.Prelude.{◌≡◌, refl, List, [], ◌∷◌, ◌++◌, map, ℕ, zero, suc, ◌+◌, ◌-◌, ◌*◌, ◌/◌, ◌≤◌, ◌<◌, min, ℤ, pos, ◌+ℤ◌, neg_ℤ, length, take, drop, get_or, set, replicate}
use Rattle.std.proofs.Common.{sym, ◌∙◌, ap, append_assoc, append-nil, mul-le-mul, mul-le-mul_left, mul-suc, arith, add-one, lt-ltb, le-ltb, drop-cons, take-suc-set, drop-set-lt, drop-drop, get_or-drop}
use Rattle.std.proofs.Math.Decide.{dec_le}
use Rattle.std.proofs.Math.IntN.{sub_ℕ}
use Rattle.std.proofs.lemmas.List.{length-map}
use Rattle.std.proofs.Math.Seq.{take-length, drop-length}
use Rattle.bits.specs.Basics.{Bytes}
use Rattle.bits.specs.DifferenceLaws.{sub_add, sub_eq, pos_is}
use Rattle.book.specs.declared.svq1_vlc.Svq1Half.{Svq1Half}
use Rattle.book.specs.declared.svq1_vlc.Svq1Half.TheVariants.{Intra, Inter}
use Rattle.codebook.specs.Mean.{residual, rounded, clamp_mean, mean_of, saturate}
use Rattle.leaf.specs.Leaf.{plus, samples, seeded, argmin}
use Rattle.leaf.specs.LeafForms.{less, vector, sample_sum, plus_n}

pub square_le : {d : ℕ} → d ≤ 255 → d * d ≤ 65025
square_le h = mul-le-mul h h

-- the biased code of a signed number, clamped
pub saturate-less : (a b : ℕ) → saturate (sub_ℕ a b) ≡ min 255 (a - b)
unfolding saturate
saturate-less a b = go (dec_le b a)
  where
    go : Dec (b ≤ a) → saturate (sub_ℕ a b) ≡ min 255 (a - b)
    go (yes h) = simp (le-ltb _ _ h)
    go (no h) =
        let h₁ : a < b = omega arith in
        let e : a - b ≡ 0 = omega arith in
        simp (lt-ltb _ _ h₁, e)

-- sample i of the sums with a vector added; the two biases add up
pub vector_at_lem : (a w : List ℕ) (b i : ℕ) → i < length a → length w ≡ length a → 128 ≤ b →
    (i < length (samples (plus (less (b - 128) a) (less 128 w)))) ×
    (get_or (samples (plus (less (b - 128) a) (less 128 w))) i 0 ≡ saturate (sub_ℕ (get_or a i 0 + get_or w i 0) b))
unfolding samples plus less
vector_at_lem [] w b i h e l = absurd (omega arith)
vector_at_lem (x ∷ a) [] b i h e l = absurd (omega arith)
vector_at_lem (x ∷ a) (y ∷ w) b zero h e l =
    let m : b - 128 + 128 ≡ b = omega arith in
    (omega arith, simp (sub_add, m))
vector_at_lem (x ∷ a) (y ∷ w) b (suc i) h e l =
    let r = vector_at_lem a w b i (omega arith) (omega arith) l in
    (omega (arith, r.0), r.1)

-- ---- lists of 128, which is what a vector's zero is kept as
pub alike_below : (n m v i : ℕ) → get_or (take n (replicate m v)) i 0 ≤ v
alike_below zero m v i = omega arith
alike_below (suc n) zero v i = omega arith
alike_below (suc n) (suc m) v zero = omega arith
alike_below (suc n) (suc m) v (suc i) = alike_below n m v i

-- bytes as a vector on sums of 128 show themselves
pub bytes_on_128 : (m : ℕ) (p : List ℕ) → length p ≤ m → Bytes p → samples (plus (less 0 (take (length p) (replicate m 128))) (less 128 p)) ≡ p
unfolding samples plus less
bytes_on_128 m [] h b = refl
bytes_on_128 zero (x ∷ p) h b = absurd (omega arith)
bytes_on_128 (suc m) (x ∷ p) h b =
    let k : x < 256 = b 0 in
    let e : saturate (sub_ℕ 128 0 +ℤ sub_ℕ x 128) ≡ x = ap saturate (sub_add 128 0 x 128) ∙ saturate-less (128 + x) 128 ∙ omega arith in
    rw e (ap (λ (l : List ℕ). x ∷ l) (bytes_on_128 m p (omega arith) (λ i. b (suc i))))

-- a vector of zeros changes no sum
pub zero_vector_adds : (m b : ℕ) (a : List ℕ) → length a ≤ m → plus (less b a) (less 128 (take (length a) (replicate m 128))) ≡ less b a
unfolding plus less
zero_vector_adds m b [] h = refl
zero_vector_adds zero b (x ∷ a) h = absurd (omega arith)
zero_vector_adds (suc m) b (x ∷ a) h =
    let e : sub_ℕ x b +ℤ sub_ℕ 128 128 ≡ sub_ℕ x b = sub_add x b 128 128 ∙ sub_eq (x + 128) (b + 128) x b (omega arith) in
    rw e (ap (λ (l : List ℤ). sub_ℕ x b ∷ l) (zero_vector_adds m b a (omega arith)))

-- ---- the first place of the least

pub argmin-take : (f : ℕ → ℕ) (j i : ℕ) → 1 ≤ j → i ≡ argmin f (j - 1) → f j < f i → j ≡ argmin f (j + 1 - 1)
unfolding argmin
argmin-take f j i h e l =
    let k : suc (j - 1) ≡ j = omega arith in
    let m : j + 1 - 1 ≡ suc (j - 1) = omega arith in
    rw m (simp (k, ← e, lt-ltb _ _ l))

pub argmin_keep : (f : ℕ → ℕ) (j i : ℕ) → 1 ≤ j → i ≡ argmin f (j - 1) → f i ≤ f j → i ≡ argmin f (j + 1 - 1)
unfolding argmin
argmin_keep f j i h e l =
    let k : suc (j - 1) ≡ j = omega arith in
    let m : j + 1 - 1 ≡ suc (j - 1) = omega arith in
    rw m (simp (k, ← e, le-ltb _ _ l))

-- the next of sixteen parts, and that there is room for it
pub next_part : (n j : ℕ) → n * (j + 1) ≡ n * j + n
next_part n j = rw (add-one, mul-suc)

pub part_room : (n j k : ℕ) → j < k → n * j + n ≤ n * k
part_room n j k h = rw (← next_part n j) (mul-le-mul_left n (omega arith))

-- ---- the mean

pub mean_up : (half : Svq1Half) (st sp n : ℕ) → sp ≤ st → mean_of half (sub_ℕ st sp) n ≡ pos (min 255 ((st - sp + n / 2) / n))
unfolding mean_of clamp_mean rounded
mean_up Intra st sp n h = simp (le-ltb _ _ h)
mean_up Inter st sp n h = simp (le-ltb _ _ h)

low_intra : (q : ℕ) → clamp_mean Intra (neg_ℤ (pos q)) ≡ pos 0
unfolding clamp_mean
low_intra zero = refl
low_intra (suc k) = refl

low_inter : (q : ℕ) → clamp_mean Inter (neg_ℤ (pos q)) ≡ sub_ℕ (256 - q) 256
unfolding clamp_mean
low_inter zero = refl
low_inter (suc k) =
    let h : 256 - suc k < 256 = omega arith in
    let n : 256 - suc (256 - suc k) ≡ min 255 k = omega arith in
    simp (lt-ltb _ _ h, n)

pub mean_down_intra : (st sp n : ℕ) → st < sp → mean_of Intra (sub_ℕ st sp) n ≡ pos 0
unfolding mean_of rounded
mean_down_intra st sp n h = simp (lt-ltb _ _ h, low_intra)

pub mean_down_inter : (st sp n : ℕ) → st < sp → mean_of Inter (sub_ℕ st sp) n ≡ sub_ℕ (256 - (sp - st + n / 2) / n) 256
unfolding mean_of rounded
mean_down_inter st sp n h =
    let e : suc (sp - suc st) ≡ sp - st = omega arith in
    simp (lt-ltb _ _ h, low_inter, e)

-- the residual's sum is the difference of the sums
pub residual_sums : (ts ps : List ℕ) → length ps ≡ length ts → residual ts ps ≡ sub_ℕ (sample_sum ts) (sample_sum ps)
unfolding residual sample_sum
residual_sums [] [] e = refl
residual_sums [] (p ∷ ps) e = absurd (omega (arith, e))
residual_sums (t ∷ ts) [] e = absurd (omega (arith, e))
residual_sums (t ∷ ts) (p ∷ ps) e =
    let f : length ps ≡ length ts = omega (arith, e) in
    rw (residual_sums ts ps f) (sub_add t p (sample_sum ts) (sample_sum ps))

pub total-step : (t : List ℕ) (i : ℕ) → i < length t → sample_sum (drop i t) ≡ get_or t i 0 + sample_sum (drop (i + 1) t)
unfolding sample_sum
total-step t i h = simp (add-one, drop-cons t i 0 h)

-- ---- a vector added in place

-- one element more: what is done, and what is left done, is the same list
pub plus_n-step : (a w : List ℕ) (i : ℕ) → i < length a → length w ≡ length a →
    take (i + 1) (set a i (get_or a i 0 + get_or w i 0)) ++ plus_n (drop (i + 1) (set a i (get_or a i 0 + get_or w i 0))) (drop (i + 1) w)
    ≡ take i a ++ plus_n (drop i a) (drop i w)
unfolding plus_n
plus_n-step a w i h e =
    let v = get_or a i 0 + get_or w i 0 in
    let h₁ : i < length w = omega arith in
    let l : i < suc i = omega arith in
    rw add-one
    (simp (take-suc-set a i v h, drop-set-lt (suc i) a i v l, drop-cons a i 0 h, drop-cons w i 0 h₁, append_assoc))

pub drop_next : (a : List ℕ) (i v : ℕ) → drop (i + 1) (set a i v) ≡ drop (i + 1) a
drop_next a i v = drop-set-lt (i + 1) a i v (omega arith)

-- the element at the front of what is left
pub front_same : (a b : List ℕ) (i : ℕ) → drop i a ≡ drop i b → get_or a i 0 ≡ get_or b i 0
front_same a b i e =
    let z : i + 0 ≡ i = omega arith in
    rw z at (sym (get_or-drop i a 0 0) ∙ ap (λ (l : List ℕ). get_or l 0 0) e ∙ get_or-drop i b 0 0)

pub drop_more : (a b : List ℕ) (i : ℕ) → drop i a ≡ drop i b → drop (i + 1) a ≡ drop (i + 1) b
drop_more a b i e = sym (drop-drop 1 i a) ∙ ap (drop 1) e ∙ drop-drop 1 i b

-- signed: the sums and the vector, each less its bias
pub less-plus : (b c : ℕ) (xs ys : List ℕ) → less (b + c) (plus_n xs ys) ≡ plus (less b xs) (less c ys)
unfolding less plus_n plus
less-plus b c [] ys = refl
less-plus b c (x ∷ xs) [] = refl
less-plus b c (x ∷ xs) (y ∷ ys) = simp (less-plus b c xs ys, sub_add)

pub plus_n_done : (a w r : List ℕ) (i : ℕ) → i ≡ length a → take i a ++ plus_n (drop i a) (drop i w) ≡ r → a ≡ r
unfolding plus_n
plus_n_done a w r i e f = sym (append-nil a) ∙ (rw (e, take-length, drop-length) at f)

-- the vector's values, in place of the sums
pub stage_sums : (book a : List ℕ) (base n b j : ℕ) → less (b + 128) (plus_n a (take n (drop (base + n * j) book))) ≡ plus (less b a) (vector book base n j)
unfolding vector
stage_sums book a base n b j = less-plus b 128 a (take n (drop (base + n * j) book))

-- a vector of bytes adds at most 255
pub plus_n_le : (xs ys : List ℕ) → ((i : ℕ) → get_or ys i 0 ≤ 255) → (i : ℕ) → get_or (plus_n xs ys) i 0 ≤ get_or xs i 0 + 255
unfolding plus_n
plus_n_le [] ys h i = omega arith
plus_n_le (x ∷ xs) [] h i = omega arith
plus_n_le (x ∷ xs) (y ∷ ys) h zero = omega (arith, h zero)
plus_n_le (x ∷ xs) (y ∷ ys) h (suc i) = plus_n_le xs ys (λ k. h (suc k)) i

-- ---- the sums before any stage
unfoldable pub raised : ℕ → List ℕ → List ℕ
raised m = map (λ x. x + m)

pub raised-step : (a p : List ℕ) (m i : ℕ) → i < length a → length p ≡ length a →
    take (i + 1) (set a i (get_or p i 0 + m)) ++ raised m (drop (i + 1) p) ≡ take i a ++ raised m (drop i p)
unfolding raised
raised-step a p m i h e =
    let h₁ : i < length p = omega arith in
    rw add-one (simp (take-suc-set a i (get_or p i 0 + m) h, drop-cons p i 0 h₁, append_assoc))

pub raised_done : (a p r : List ℕ) (m i : ℕ) → i ≡ length a → length p ≡ length a → take i a ++ raised m (drop i p) ≡ r → a ≡ r
unfolding raised
raised_done a p r m i e f g =
    sym (append-nil a)
    ∙ ap (λ (l : List ℕ). a ++ map (λ x. x + m) l) (sym (ap (λ (k : ℕ). drop k p) (sym f) ∙ drop-length p))
    ∙ (rw (e, take-length) at g)

pos_add : (x m : ℕ) → sub_ℕ (x + m) 256 ≡ pos x +ℤ sub_ℕ m 256
pos_add x m = sym (sub_add x 0 m 256) ∙ ap (λ (z : ℤ). z +ℤ sub_ℕ m 256) (sym (pos_is x))

pub raised-less : (p : List ℕ) (m : ℕ) → less 256 (raised m p) ≡ seeded (sub_ℕ m 256) p
unfolding less raised seeded
raised-less [] m = refl
raised-less (x ∷ p) m = rw (pos_add x m) (ap (λ l. (pos x +ℤ sub_ℕ m 256) ∷ l) (raised-less p m))

pub raised_le : (p : List ℕ) (m : ℕ) → ((i : ℕ) → get_or p i 0 ≤ 255) → (i : ℕ) → get_or (raised m p) i 0 ≤ 255 + m
unfolding raised
raised_le [] m h i = omega arith
raised_le (x ∷ p) m h zero = omega (arith, h zero)
raised_le (x ∷ p) m h (suc i) = raised_le p m (λ k. h (suc k)) i

-- ---- blocks of samples
pub length_shown_sums : (b : ℕ) (a : List ℕ) → length (samples (less b a)) ≡ length a
unfolding samples less
length_shown_sums b a = length-map (map (λ x. sub_ℕ x b) a) saturate ∙ length-map a (λ x. sub_ℕ x b)

pub samples_at : (b : ℕ) (a : List ℕ) (i : ℕ) → i < length a → get_or (samples (less b a)) i 0 ≡ min 255 (get_or a i 0 - b)
unfolding samples less
samples_at b [] i h = absurd (omega arith)
samples_at b (x ∷ a) zero h = saturate-less x b
samples_at b (x ∷ a) (suc i) h = samples_at b a i (omega arith)
