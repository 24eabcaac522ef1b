-- How many bits a plane may take (document 02, §5).
use Rattle.std.specs.Prelude.{ℕ, ◌+◌, ◌-◌, ◌*◌, Bool, true, leb, length}
use Rattle.macroblock.specs.declared.svq1_enc_inter.Svq1MbMode.TheVariants.{Skip}
use Rattle.macroblock.specs.Macroblock.{Given, cols, rows, mode_bits}

-- an allowance of bits that a plane shares with the planes behind it, and the number of their macroblocks
pub record Budget : Type 0 where
  pub allowance : ℕ
  pub behind : ℕ

-- a plane alone has no limit
pub data Limit : Type 0 where
  unlimited : Limit
  within : Budget → Limit

-- with so many macroblocks done and bits spent, the allowance still holds a SKIP code for each macroblock to come, in this plane and behind it
abbrev pub can_skip_rest : Limit → Given → ℕ → ℕ → Bool
can_skip_rest unlimited g done spent = true
can_skip_rest (within b) g done spent = leb (spent + length (mode_bits g Skip) * (rows g * cols g - done + b.behind)) b.allowance
