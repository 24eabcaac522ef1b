-- What the lines of the cards show: digits, the mode that bits begin with (document 01, "Bench cards").
use Rattle.std.specs.Prelude.{ℕ, ◌+◌, ◌/◌, ◌%◌, List, [], ◌∷◌, eqb, ltb, length, take, Option, Some, None}
use Rattle.bits.specs.Basics.{pick}
use Rattle.bits.specs.Refusals.{Answer, done, refused}
use Rattle.code_tables.specs.Calls.{code_at}
use Rattle.code_tables.specs.declared.svq1_vlc.CodeFound.{CodeFound}
use Rattle.macroblock.specs.declared.svq1_enc_inter.Svq1MbMode.{Svq1MbMode}
use Rattle.macroblock.specs.declared.svq1_enc_inter.Svq1MbMode.TheVariants.{Inter, Inter4Mv, Intra, Skip}

-- the byte of a hexadecimal digit: `0` to `9`, then `a` to `f`
abbrev pub hex_digit : ℕ → ℕ
hex_digit n = pick (ltb n 10) (48 + n) (87 + n)

-- a byte as two of them
abbrev pub hex_byte : ℕ → List ℕ
hex_byte b = hex_digit (b / 16) ∷ hex_digit (b % 16) ∷ []

-- the position of a code that was read; 4, which is no mode's, where there is none
abbrev pub position_of : Answer CodeFound → ℕ
position_of (done r) = r.position
position_of (refused n) = 4

-- the mode of a position in a book's first table
unfoldable pub mode_numbered : ℕ → Option Svq1MbMode
mode_numbered n = pick (eqb n 0) (Some Inter) (pick (eqb n 1) (Some Inter4Mv) (pick (eqb n 2) (Some Intra) (pick (eqb n 3) (Some Skip) None)))

-- the position of the mode whose code stands at a bit: a book's first four entries are the modes'
unfoldable pub mode_read : List ℕ → List ℕ → ℕ → ℕ
mode_read book bytes at = pick (ltb (length book) 12) 4 (position_of (code_at bytes at (take 12 book)))
