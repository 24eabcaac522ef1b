-- Laws of the raised codebook: at L0 to L3 its pages hold the codebook's vectors.
-- Assumes nothing.
use Rattle.std.specs.Prelude.{◌≡◌, refl, List, ◌∷◌, ℕ, zero, suc, ◌+◌, ◌-◌, ◌*◌, ◌%◌, ◌≤◌, ◌<◌, ℤ, take, drop, get_or}
use Rattle.std.proofs.Common.{sym, ◌∙◌, ap, add-zero, add-mul, mul_comm, mul_assoc, mul_right_comm, arith, lt-ltb, le-ltb}
use Rattle.std.proofs.Math.Decide.{dec_lt}
use Rattle.std.proofs.Math.IntN.{sub_ℕ}
use Rattle.bits.specs.Basics.{Bytes, values_from, signed_of}
use Rattle.book.specs.Book.{codebook_bytes}
use Rattle.book.specs.Level.{area}
use Rattle.book.specs.declared.svq1_vlc.Svq1Half.{Svq1Half}
use Rattle.codebook.specs.Codebook.{page_offset, byte_of, vector_at}
use Rattle.leaf.specs.LeafForms.{less, vector, vectors_in}
use Rattle.codebook.specs.CodebookForms.{origin_of, raised_codebook}
use Rattle.codebook.specs.CodebookFormsLaws.{page_vector}

-- ---- runs of values
-- the same values, wherever they are counted from
values_same : {A : Type 0} (f g : ℕ → A) (n j k : ℕ) → ((i : ℕ) → i < n → f (j + i) ≡ g (k + i)) → values_from f n j ≡ values_from g n k
unfolding values_from
values_same f g zero j k h = refl
values_same {A = A} f g (suc n) j k h =
    let first : f j ≡ g k = rw (add-zero j, add-zero k) at (h 0 (omega arith)) in
    let more : (i : ℕ) → i < n → f (suc j + i) ≡ g (suc k + i) = λ i l.
    let a : suc j + i ≡ j + suc i = omega arith in
    let b : suc k + i ≡ k + suc i = omega arith in
    rw (a, b) (h (suc i) (omega arith)) in
    rw first (ap (λ (l : List A). g k ∷ l) (values_same f g n (suc j) (suc k) more))

take_values : {A : Type 0} (f : ℕ → A) (n m j : ℕ) → n ≤ m → take n (values_from f m j) ≡ values_from f n j
unfolding values_from
take_values f zero m j h = refl
take_values f (suc n) zero j h = absurd (omega arith)
take_values {A = A} f (suc n) (suc m) j h = ap (λ (l : List A). f j ∷ l) (take_values f n m (suc j) (omega arith))

drop_values : {A : Type 0} (f : ℕ → A) (k m j : ℕ) → k ≤ m → drop k (values_from f m j) ≡ values_from f (m - k) (j + k)
unfolding values_from
drop_values f zero m j h =
    let z : m - 0 ≡ m = omega arith in
    rw (z, add-zero j)
drop_values f (suc k) zero j h = absurd (omega arith)
drop_values f (suc k) (suc m) j h =
    let a : suc j + k ≡ j + suc k = omega arith in
    let b : suc m - suc k ≡ m - k = omega arith in
    rw (b, ← a) (drop_values f k m (suc j) (omega arith))

less_values : (b : ℕ) (f : ℕ → ℕ) (n j : ℕ) → less b (values_from f n j) ≡ values_from (λ i. sub_ℕ (f i) b) n j
unfolding less values_from
less_values b f zero j = refl
less_values b f (suc n) j = ap (λ (l : List ℤ). sub_ℕ (f j) b ∷ l) (less_values b f n (suc j))

-- ---- the pages
-- a byte plus 128, less 128
raised_signed : (x : ℕ) → x < 256 → sub_ℕ ((x + 128) % 256) 128 ≡ signed_of x
raised_signed x h =
    elim (dec_lt x 128) [
      | yes a ↦
          let m : (x + 128) % 256 ≡ x + 128 = omega arith in
          let n : x + 128 - 128 ≡ x = omega arith in
          rw (m, lt-ltb x 128 a, le-ltb (x + 128) 128 (omega arith), n)
      | no a ↦
          let m : (x + 128) % 256 ≡ x - 128 = omega arith in
          let n : 128 - suc (x - 128) ≡ 255 - x = omega arith in
          rw (m, le-ltb x 128 (omega arith), lt-ltb (x - 128) 128 (omega arith), n)
    ]

-- sample p of vector j of stage s: it stands in the copy, and comes from its place in the codebook
record Sample (h : Svq1Half) (d s j p : ℕ) : Type 0 where
  inside : page_offset h d + area d * 16 * s + area d * j + area d ≤ codebook_bytes
  comes : origin_of (page_offset h d + area d * 16 * s + area d * j + p) ≡ page_offset h d + (s * 16 + j) * area d + byte_of d p

-- n 16 s + n j, as vectors of n
vectors_before : (n s j : ℕ) → n * 16 * s + n * j ≡ (s * 16 + j) * n
vectors_before n s j =
    let e : n * 16 * s ≡ s * 16 * n = mul_comm (n * 16) s ∙ sym (mul_assoc s n 16) ∙ mul_right_comm s n 16 in
    let f : n * j ≡ j * n = mul_comm n j in
    omega (arith, e, f, add-mul (s * 16) j n)

sample : (h : Svq1Half) (d s j p : ℕ) → d < 4 → s < 6 → j < 16 → p < area d → Sample h d s j p
sample h d s j p a b c e =
    let v = page_vector h d (s * 16 + j) a (omega arith) in
    let q : page_offset h d + area d * 16 * s + area d * j ≡ page_offset h d + (s * 16 + j) * area d = omega (arith, vectors_before (area d) s j) in
    record { inside = omega (arith, q, v.inside); comes = rw q (v.comes p e) }

-- a part of the copy, signed
part_values_lem : (f : ℕ → ℕ) (b n k m : ℕ) → k + n ≤ m → less b (take n (drop k (values_from f m 0))) ≡ values_from (λ i. sub_ℕ (f i) b) n k
part_values_lem f b n k m h =
    let z : 0 + k ≡ k = omega arith in
    rw (drop_values f k m 0 (omega arith), z, take_values f n (m - k) k (omega arith)) (less_values b f n k)

area_some : (d : ℕ) → d < 4 → 0 < area d
area_some zero h = omega arith
area_some (suc zero) h = omega arith
area_some (suc (suc zero)) h = omega arith
area_some (suc (suc (suc zero))) h = omega arith
area_some (suc (suc (suc (suc d)))) h = absurd (omega arith)

-- THE COPY'S VECTORS are the codebook's
pub vectors_raised : (codebook : List ℕ) → Bytes codebook → (h : Svq1Half) (d s j : ℕ) → d < 4 → s < 6 → j < 16
    → vector_at codebook h d s j ≡ vectors_in (raised_codebook codebook) (page_offset h d) (area d) s j
unfolding vector_at vectors_in vector raised_codebook
vectors_raised codebook bytes h d s j a b c =
    let n = area d in
    let k = page_offset h d + n * 16 * s + n * j in
    let f : ℕ → ℕ = λ i. (get_or codebook (origin_of i) 0 + 128) % 256 in
    let g : ℕ → ℤ = λ p. signed_of (get_or codebook (page_offset h d + (s * 16 + j) * n + byte_of d p) 0) in
    let each : (i : ℕ) → i < n → g (0 + i) ≡ sub_ℕ (f (k + i)) 128 = λ i l.
    let z : 0 + i ≡ i = omega arith in
    rw (z, (sample h d s j i a b c l).comes) (sym (raised_signed (get_or codebook (page_offset h d + (s * 16 + j) * n + byte_of d i) 0) (bytes (page_offset h d + (s * 16 + j) * n + byte_of d i)))) in
    values_same g (λ i. sub_ℕ (f i) 128) n 0 k each
    ∙ sym (part_values_lem f 128 n k codebook_bytes (sample h d s j 0 a b c (area_some d a)).inside)
