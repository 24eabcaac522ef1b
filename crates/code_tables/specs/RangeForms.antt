-- Codes as ranges of 32-bit numbers: those that begin with the code's bits. One of two codes begins the other exactly where their ranges meet, by which refusal 7 of document 01 is tested quickly.
use Rattle.std.specs.Prelude.{ℕ, ◌+◌, ◌-◌, ◌*◌, ◌^◌, Bool, true, ◌&&◌, List, [], ◌∷◌, eqb, leb}
use Rattle.bits.specs.Basics.{pick}

-- an end of the range of the n bits of v: the least number for e = 0, the greatest for e = 1
abbrev pub range_end : ℕ → ℕ → ℕ → ℕ
range_end e v n = v * 2 ^ (32 - n) + e * (2 ^ (32 - n) - 1)

-- of every code of a table
unfoldable pub range_ends : ℕ → List ℕ → List ℕ
range_ends e [] = []
range_ends e (h ∷ []) = []
range_ends e (h ∷ l ∷ []) = []
range_ends e (h ∷ l ∷ n ∷ t) = range_end e (h * 256 + l) n ∷ range_ends e t

-- two ranges, given by their ends, have a number in common
abbrev pub meet : ℕ → ℕ → ℕ → ℕ → Bool
meet low high low' high' = leb low high' && leb low' high

-- how many of some ranges, given by the lists of their ends, meet one
unfoldable pub meetings : ℕ → ℕ → List ℕ → List ℕ → ℕ
meetings low high [] hs = 0
meetings low high (l ∷ ls) [] = 0
meetings low high (l ∷ ls) (h ∷ hs) = pick (meet low high l h) 1 0 + meetings low high ls hs

-- no two of them meet
unfoldable pub ranges_apart : List ℕ → List ℕ → Bool
ranges_apart [] hs = true
ranges_apart (l ∷ ls) [] = true
ranges_apart (l ∷ ls) (h ∷ hs) = eqb (meetings l h ls hs) 0 && ranges_apart ls hs
