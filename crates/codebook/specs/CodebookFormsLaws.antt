-- Laws of the codebook in raster order: where each byte comes from.
-- Assumes nothing.
use Rattle.std.specs.Prelude.{◌≡◌, refl, List, ℕ, zero, suc, ◌+◌, ◌*◌, ◌/◌, ◌%◌, ◌≤◌, ◌<◌, length, get_or}
use Rattle.std.proofs.Common.{sym, ◌∙◌, ap, arith, lt-ltb, le-ltb}
use Rattle.bits.specs.BasicsLaws.{length_values, value_at}
use Rattle.book.specs.Book.{codebook_bytes}
use Rattle.book.specs.Level.{area}
use Rattle.book.specs.declared.svq1_vlc.Svq1Half.{Svq1Half}
use Rattle.book.specs.declared.svq1_vlc.Svq1Half.TheVariants.{Intra, Inter}
use Rattle.codebook.specs.Codebook.{page_offset, byte_of}
use Rattle.codebook.specs.CodebookForms.{origin_of, raised_codebook, VectorStands}

-- ---- where a byte of the copy comes from
-- where vectors of 64 samples, of 32, or of less stand from entry 64 k or 32 k on
origin_of_64 : (i k p q : ℕ) → i ≡ 64 * k + p → p < 64 → i < 12288 → q ≡ 64 * k + byte_of 3 p → origin_of i ≡ q
unfolding origin_of
origin_of_64 i k p q e h l f =
    let a : i / 64 * 64 ≡ 64 * k = omega arith in
    let b : i % 64 ≡ p = omega arith in
    rw (lt-ltb i 12288 l, a, b) (sym f)

origin_of_32 : (i k p q : ℕ) → i ≡ 32 * k + p → p < 32 → 12288 ≤ i → i < 18432 → q ≡ 32 * k + byte_of 2 p → origin_of i ≡ q
unfolding origin_of
origin_of_32 i k p q e h g l f =
    let a : i / 32 * 32 ≡ 32 * k = omega arith in
    let b : i % 32 ≡ p = omega arith in
    rw (le-ltb i 12288 g, lt-ltb i 18432 l, a, b) (sym f)

origin_rest : (i q : ℕ) → 18432 ≤ i → q ≡ i → origin_of i ≡ q
unfolding origin_of
origin_rest i q h f = rw (le-ltb i 12288 (omega arith), le-ltb i 18432 h) (sym f)

narrow_byte : (d p : ℕ) → d < 2 → byte_of d p ≡ p
unfolding byte_of
narrow_byte zero p h = refl
narrow_byte (suc zero) p h = refl
narrow_byte (suc (suc d)) p h = absurd (omega arith)

-- the 192 vectors of a level, of both halves, stand one behind the other
pub vector_stands : (d k : ℕ) → d < 4 → k < 192 → VectorStands d (page_offset Intra d + k * area d)
unfolding page_offset
vector_stands zero k h l = record { level = h; inside = omega arith; comes = λ p b. origin_rest _ _ (omega arith) (omega (arith, narrow_byte 0 p (omega arith))) }
vector_stands (suc zero) k h l = record { level = h; inside = omega arith; comes = λ p b. origin_rest _ _ (omega arith) (omega (arith, narrow_byte 1 p (omega arith))) }
vector_stands (suc (suc zero)) k h l = record { level = h; inside = omega arith; comes = λ p b. origin_of_32 _ (384 + k) p _ (omega arith) b (omega arith) (omega arith) (omega arith) }
vector_stands (suc (suc (suc zero))) k h l = record { level = h; inside = omega arith; comes = λ p b. origin_of_64 _ k p _ (omega arith) b (omega arith) (omega arith) }
vector_stands (suc (suc (suc (suc d)))) k h l = absurd (omega arith)

-- those of the inter half behind those of the intra half
inter_behind : (d k : ℕ) → d < 4 → page_offset Intra d + (96 + k) * area d ≡ page_offset Inter d + k * area d
unfolding page_offset
inter_behind zero k h = omega arith
inter_behind (suc zero) k h = omega arith
inter_behind (suc (suc zero)) k h = omega arith
inter_behind (suc (suc (suc zero))) k h = omega arith
inter_behind (suc (suc (suc (suc d)))) k h = absurd (omega arith)

pub page_vector : (h : Svq1Half) (d k : ℕ) → d < 4 → k < 96 → VectorStands d (page_offset h d + k * area d)
page_vector Intra d k a b = vector_stands d k a (omega arith)
page_vector Inter d k a b = rw (← inter_behind d k a) (vector_stands d (96 + k) a (omega arith))

pub raised-length : (codebook : List ℕ) → length (raised_codebook codebook) ≡ codebook_bytes
unfolding raised_codebook
raised-length codebook = length_values _ codebook_bytes 0

pub raised_at : (codebook : List ℕ) (i : ℕ) → i < codebook_bytes → get_or (raised_codebook codebook) i 0 ≡ (get_or codebook (origin_of i) 0 + 128) % 256
unfolding raised_codebook
raised_at codebook i h = value_at (λ (k : ℕ). (get_or codebook (origin_of k) 0 + 128) % 256) codebook_bytes 0 i 0 h ∙ ap (λ (k : ℕ). (get_or codebook (origin_of k) 0 + 128) % 256) {x = 0 + i} {y = i} (omega arith)
