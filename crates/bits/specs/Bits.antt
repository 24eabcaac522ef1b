-- A byte slice seen as a list of bits, and bits put into it (document 01, "Rust forms that need another build", `BitWriter`).
use Rattle.std.specs.Prelude.{ℕ, zero, suc, ◌+◌, ◌-◌, ◌*◌, ◌/◌, ◌%◌, ◌^◌, List, [], ◌∷◌, ◌++◌, length, take, drop, replicate}

-- the low w bits of v, highest first
unfoldable pub msb : ℕ → ℕ → List ℕ
msb zero v = []
msb (suc w) v = v / 2 ^ w % 2 ∷ msb w v

-- the number that a run of bits, highest first, stands for
unfoldable pub val_of : List ℕ → ℕ
val_of [] = 0
val_of (b ∷ bs) = b * 2 ^ length bs + val_of bs

-- the bits of a list of bytes, each byte's highest first
unfoldable pub bits_of : List ℕ → List ℕ
bits_of [] = []
bits_of (b ∷ bs) = msb 8 b ++ bits_of bs

-- where the byte ends that bit n - 1 lies in
abbrev pub byte_end : ℕ → ℕ
byte_end n = (n + 7) / 8 * 8

-- what stands behind the last bit written, bit n - 1: zeros to the end of its byte, and then what bs has
unfoldable pub cleared : List ℕ → ℕ → List ℕ
cleared bs n = replicate (byte_end n - n) 0 ++ drop (byte_end n) bs

-- what stands behind the bits xs that are put into bs at bit `at`; putting none changes nothing
unfoldable pub after_bits : List ℕ → ℕ → List ℕ → List ℕ
after_bits bs at [] = drop at bs
after_bits bs at (x ∷ xs) = cleared bs (at + length (x ∷ xs))

-- the bits bs with xs put at bit `at`: the bits before stay, the unused low bits of the last byte become 0, the rest stays
unfoldable pub put_bits : List ℕ → ℕ → List ℕ → List ℕ
put_bits bs at xs = take at bs ++ (xs ++ after_bits bs at xs)
