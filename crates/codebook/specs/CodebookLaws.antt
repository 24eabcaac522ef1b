-- The two directions of the raster order are inverse to each other at L0 to L3, and four bytes stay together: one computed test over every byte of
-- every level.
-- Assumes nothing.
use Rattle.std.specs.Prelude.{◌≡◌, refl, Bool, true, ◌&&◌, ℕ, ◌+◌, ◌*◌, ◌/◌, ◌%◌, ◌<◌, eqb, ltb}
use Rattle.std.proofs.Common.{eqb-true, ltb-true}
use Rattle.bits.specs.BasicsLaws.{both_true, below, below_at}
use Rattle.book.specs.Level.{area}
use Rattle.codebook.specs.Codebook.{raster_of, byte_of}

-- at level d, byte or place b goes there and back, and stays in the vector
there_and_back : ℕ → ℕ → Bool
there_and_back d b = (eqb (byte_of d (raster_of d b)) b && eqb (raster_of d (byte_of d b)) b) && (ltb (raster_of d b) (area d) && ltb (byte_of d b) (area d))

-- byte b stands as far behind the first of its four as in the payload
same_four : ℕ → ℕ → Bool
same_four d b = eqb (raster_of d b) (raster_of d (b / 4 * 4) + b % 4)

all_bytes : ℕ → Bool
all_bytes d = below (λ b. there_and_back d b && same_four d b) (area d)

tested : below all_bytes 4 ≡ true
unfolding below all_bytes there_and_back same_four raster_of byte_of
tested = refl

pub record Raster (d b : ℕ) : Type 0 where
  pub byte_raster : byte_of d (raster_of d b) ≡ b
  pub raster_byte : raster_of d (byte_of d b) ≡ b
  pub raster_in : raster_of d b < area d
  pub byte_in : byte_of d b < area d
  pub four : raster_of d b ≡ raster_of d (b / 4 * 4) + b % 4

pub raster : (d b : ℕ) → d < 4 → b < area d → Raster d b
unfolding all_bytes there_and_back same_four
raster d b h l =
    let p = eqb (byte_of d (raster_of d b)) b in
    let q = eqb (raster_of d (byte_of d b)) b in
    let r = ltb (raster_of d b) (area d) in
    let s = ltb (byte_of d b) (area d) in
    let test = both_true (there_and_back d b) (same_four d b) (below_at (λ b. there_and_back d b && same_four d b) (area d) b (below_at all_bytes 4 d tested h) l) in
    let all = both_true (p && q) (r && s) test.0 in
    let pq = both_true p q all.0 in
    let rs = both_true r s all.1 in
    record {
      byte_raster = eqb-true (byte_of d (raster_of d b)) b pq.0;
      raster_byte = eqb-true (raster_of d (byte_of d b)) b pq.1;
      raster_in = ltb-true (raster_of d b) (area d) rs.0;
      byte_in = ltb-true (byte_of d b) (area d) rs.1;
      four = eqb-true (raster_of d b) (raster_of d (b / 4 * 4) + b % 4) test.1;
    }
