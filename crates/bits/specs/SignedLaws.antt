-- Laws of two's complement bytes: the number that a byte stands for. Assumes nothing.
use Rattle.std.specs.Prelude.{ℕ, ◌-◌, ◌≤◌, ◌<◌, ◌≡◌, ℤ, pos, negsuc, ◌-ℤ◌}
use Rattle.std.proofs.Common.{ap, arith, lt-ltb, le-ltb}
use Rattle.std.specs.Int.Signed.{mag}
use Rattle.bits.specs.Basics.{signed_of, signed_byte}

-- below 128 itself, from there on less 256
pub low_signed : (b : ℕ) → b < 128 → pos b ≡ signed_of b
low_signed b h = simp (lt-ltb b 128 h)

pub high_signed : (b : ℕ) → 128 ≤ b → b < 256 → pos b -ℤ pos 256 ≡ signed_of b
high_signed b h k = simp (le-ltb b 128 h, lt-ltb b 256 k) (ap negsuc (omega arith))

pub high_mag : (b : ℕ) → b < 256 → mag (pos b -ℤ pos 256) < 256
high_mag b k = rw (lt-ltb b 256 k) (omega arith)

-- a number from -128 to 127 is that of its byte
pub byte_back : (z : ℤ) → mag z < 128 → signed_of (signed_byte z) ≡ z
byte_back (pos n) h = simp (lt-ltb n 128 h)
byte_back (negsuc n) h = simp (le-ltb (255 - n) 128 (omega arith)) (ap negsuc (omega arith))
