-- The table of the raster order, by one test that antt computes over it; and laws of the order that the code relies on.
-- Assumes nothing.
use Rattle.std.specs.Prelude.{◌≡◌, Bool, true, ◌&&◌, List, ℕ, zero, suc, ◌+◌, ◌≤◌, ◌<◌, eqb, length}
use Rattle.std.proofs.Common.{arith, eqb-true}
use Rattle.bits.specs.BasicsLaws.{both_true, below, below_at}
use Rattle.book.specs.Level.{area}
use Rattle.codebook.specs.Codebook.{raster_of}
use Rattle.codebook.specs.Raster.{raster_start, raster_numbers, raster_number, bytes_into, RasterOrder}

-- number b of level d is the rule's, and place b gets one byte
unfoldable pub number_test : List ℕ → ℕ → ℕ → Bool
number_test t d b = eqb (raster_number t d b) (raster_of d b) && eqb (bytes_into t d b) 1

unfoldable pub level_test : List ℕ → ℕ → Bool
level_test t d = below (number_test t d) (area d)

unfoldable pub raster_test : List ℕ → Bool
raster_test t = eqb (length t) raster_numbers && below (level_test t) 4

pub raster_by_test : (t : List ℕ) → raster_test t ≡ true → RasterOrder t
unfolding raster_test level_test number_test
raster_by_test t e =
    let two = both_true (eqb (length t) raster_numbers) (below (level_test t) 4) e in
    let each : (d b : ℕ) → d < 4 → b < area d → (eqb (raster_number t d b) (raster_of d b) ≡ true) × (eqb (bytes_into t d b) 1 ≡ true) = λ d b h l.
    both_true (eqb (raster_number t d b) (raster_of d b)) (eqb (bytes_into t d b) 1) (below_at (number_test t d) (area d) b (below_at (level_test t) 4 d two.1 h) l) in
    record {
      size = eqb-true (length t) raster_numbers two.0;
      rule = λ d b h l. eqb-true (raster_number t d b) (raster_of d b) (each d b h l).0;
      once = λ d p h l. eqb-true (bytes_into t d p) 1 (each d p h l).1;
    }

-- a level's numbers lie in the table
pub numbers_in : (d : ℕ) → d < 4 → raster_start d + area d ≤ raster_numbers
unfolding raster_start
numbers_in zero h = omega arith
numbers_in (suc zero) h = omega arith
numbers_in (suc (suc zero)) h = omega arith
numbers_in (suc (suc (suc zero))) h = omega arith
numbers_in (suc (suc (suc (suc d)))) h = absurd (omega arith)
