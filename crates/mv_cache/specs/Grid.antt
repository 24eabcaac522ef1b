-- A plane as a grid of macroblocks: which macroblock an entry of a slice belongs to, a macroblock's entries, and writing them (document 01, the last sentence of `svq1_mv_cache.rs`, and "gathering it by plane").
-- One form serves samples (16 a side) and block vectors (2 a side).
use Rattle.std.specs.Prelude.{ℕ, zero, suc, ◌+◌, ◌*◌, ◌/◌, ◌%◌, List, [], ◌∷◌, eqb, get_or, set}
use Rattle.bits.specs.Basics.{pick, values_from}

-- n entries from place o on, by a function
unfoldable pub row_set : ℕ → (ℕ → ℕ) → ℕ → List ℕ → List ℕ
row_set o f zero xs = xs
row_set o f (suc n) xs = set (row_set o f n xs) (o + n) (f n)

-- entry p of a slice whose rows are cols macroblocks of s entries each, s rows a macroblock: the macroblock that it belongs to, and its place there, both in raster order
unfoldable pub owner : ℕ → ℕ → ℕ → ℕ
owner s cols p = p / (s * cols) / s * cols + p % (s * cols) / s

unfoldable pub place_in : ℕ → ℕ → ℕ → ℕ
place_in s cols p = p / (s * cols) % s * s + p % (s * cols) % s

-- the entry of macroblock k at place j
abbrev pub entry_of : ℕ → ℕ → ℕ → ℕ → ℕ
entry_of s cols k j = (k / cols * s + j / s) * (s * cols) + (k % cols * s + j % s)

-- macroblock k's entries
unfoldable pub part : ℕ → ℕ → ℕ → List ℕ → List ℕ
part s cols k xs = values_from (λ j. get_or xs (entry_of s cols k j) 0) (s * s) 0

-- the list from its entry p on, with macroblock k's entries taken from v
unfoldable pub put_from : ℕ → ℕ → ℕ → List ℕ → ℕ → List ℕ → List ℕ
put_from s cols k v p [] = []
put_from s cols k v p (x ∷ xs) = pick (eqb (owner s cols p) k) (get_or v (place_in s cols p) 0) x ∷ put_from s cols k v (suc p) xs

-- the slice xs with macroblock k's entries v; every other entry stays
unfoldable pub put_part : ℕ → ℕ → ℕ → List ℕ → List ℕ → List ℕ
put_part s cols k v xs = put_from s cols k v 0 xs
