-- What the functions of `inner` ask and leave (document 01, refusals 21, 22, 24, as a caller meets them).
use Rattle.std.specs.Prelude.{ℕ, ◌+◌, ◌*◌, ◌^◌, ◌≤◌, ◌≡◌, List, length}
use Rattle.bits.specs.Bits.{bits_of, put_bits}

-- w bits from bit `at` on lie in a string of this many bytes, and it is not too long (document 01, 21, 22, 24)
pub record Fits (bytes at w : ℕ) : Type 0 where
  pub bytes_fit : bytes ≤ 2 ^ 28
  pub bits_fit : at + w ≤ 8 * bytes

-- the bits xs put at bit `at` of `out`: `next` is the bit behind them, `left` what the slice holds at the end
pub record Wrote (out : List ℕ) (at : ℕ) (xs : List ℕ) (next : ℕ) (left : List ℕ) : Type 0 where
  pub behind : next ≡ at + length xs
  pub bits : bits_of left ≡ put_bits (bits_of out) at xs
