-- The plane reader as a call: its answer, and a plane that is read to its end (document 01, "Reading", refusals 10, 11 and 24).
use Rattle.std.specs.Prelude.{ℕ, ◌*◌, ◌≤◌, List, ◌≡◌, length}
use Rattle.bits.specs.Bits.{bits_of}
use Rattle.bits.specs.Refusals.{number_told}
use Rattle.macroblock.specs.Macroblock.{Given}
use Rattle.macroblock.specs.Slices.{Slices}
use Rattle.plane.specs.RunLaws.{Midway}
use Rattle.plane.specs.Plane.{count, read_step, read_plane}
use Rattle.plane.specs.Calls.{PlaneAnswer}
use Rattle.plane.specs.PlaneNeeds.{SameLengths}
use Rattle.plane_dec.specs.declared.svq1_plane.ReadEnd.{ReadEnd}

-- the answer of the reader, which has no totals
abbrev pub read_end_of : ReadEnd → PlaneAnswer
read_end_of r = record { refusal = number_told r.refused; done = r.done; next = r.next; bits = 0; error = 0 }

-- a plane that is not refused is read as far as it goes
abbrev pub ReadThrough : Given → List ℕ → ℕ → Slices → ReadEnd → Slices → Type 0
ReadThrough g bytes start u r left =
    read_plane g (bits_of bytes) start u ≡ record { refusal = number_told r.refused; done = r.done; state = record { next = r.next; slices = left } }

-- before macroblock k: the run is on its way, and the lengths of the slices are what they were
pub record Going (g : Given) (bytes : List ℕ) (start : ℕ) (u₀ u : Slices) (k at : ℕ) : Type 0 where
  pub same : SameLengths u₀ u
  pub within : at ≤ 8 * length bytes
  pub loop : Midway (read_step g (bits_of bytes)) (count g) (record { next = start; slices = u₀ }) k (record { next = at; slices = u })
