-- The tests of the search and of the sum of one vector as the code makes them (document 01, refusal 9).
use Rattle.std.specs.Prelude.{ℕ, ◌*◌, ◌%◌, ◌≤◌, ◌≡◌, Bool, ◌&&◌, ◌||◌, eqb, ltb, ℤ}
use Rattle.motion.specs.CandidateForms.{lowered}

-- side 8 or 16
abbrev pub either_side : ℕ → Bool
either_side side = eqb side 8 || eqb side 16

-- not refused by 9 for its side, its place or the length of its target
abbrev pub search_block_ok : ℕ → ℕ → ℕ → ℕ → ℕ → ℕ → Bool
search_block_ok len side x y stride rows = (either_side side && (eqb (x % side) 0 && eqb (y % side) 0)) && ((ltb x stride && ltb y rows) && eqb len (side * side))

-- a component in -32..31, raised by 1024
pub record Raised (z : ℤ) (u : ℕ) : Type 0 where
  pub low : 992 ≤ u
  pub high : u ≤ 1055
  pub same : lowered u ≡ z
