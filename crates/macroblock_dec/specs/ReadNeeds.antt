-- What reading a macroblock asks, and what it leaves in the result slices (document 01, "Reading"; document 00, demand 1).
use Rattle.std.specs.Prelude.{◌≡◌, List, ℕ, ◌*◌, ◌<◌, drop, Result, Ok, Err}
use Rattle.bits.specs.Bits.{bits_of}
use Rattle.bits.specs.BitNeeds.{Fits}
use Rattle.bits.specs.Refusals.{number_of}
use Rattle.bits.specs.declared.refusal.Refusal.{Refusal}
use Rattle.code_tables.specs.Codes.{Got, bad}
use Rattle.macroblock.specs.Macroblock.{Given, cols, rows, Choice}
use Rattle.macroblock.specs.Reading.{read_macroblock}
use Rattle.macroblock.specs.Slices.{Slices, near, laid}
use Rattle.macroblock.specs.MacroblockNeeds.{Accepted, Held}
use Rattle.macroblock_dec.specs.FindingNeeds.{Found}

-- ---- the call
-- a plane that is not refused, macroblock k of it, and a bit of a bit string
pub record ReadReady (g : Given) (raised : List ℕ) (u : Slices) (k bytes at : ℕ) : Type 0 where
  pub ok : Accepted g raised
  pub held : Held g u
  pub number : k < rows g * cols g
  pub from : Fits bytes at 0

-- what stands at bit `at` of the bytes s as macroblock k
abbrev pub macroblock_here : Given → List ℕ → ℕ → ℕ → Slices → Got Choice
macroblock_here g s at k u = read_macroblock g (near g u k) (drop at (bits_of s))

-- it was read, up to the bit `next`, and laid into the slices
pub record MbLaid (g : Given) (s : List ℕ) (at k : ℕ) (u : Slices) (next : ℕ) (left : Slices) : Type 0 where
  pub choice : Choice
  pub found : Found s (macroblock_here g s at k u) choice next
  pub slices : left ≡ laid g k choice u

-- refused, and the slices left as they were; or read with the bit behind it, and the slices left with it laid
abbrev pub MbRead : Given → List ℕ → ℕ → ℕ → Slices → Result ℕ Refusal → Slices → Type 0
MbRead g s at k u (Ok next) left = MbLaid g s at k u next left
MbRead g s at k u (Err e) left = (bad (number_of e) ≡ macroblock_here g s at k u) × (left ≡ u)
