-- The plane writer as a call: its answer, and a plane that is written to its end (document 01, refusal 22).
use Rattle.std.specs.Prelude.{ℕ, ◌*◌, ◌≤◌, true, List, ◌≡◌, length}
use Rattle.bits.specs.Refusals.{number_told}
use Rattle.bits.specs.Basics.{Bytes}
use Rattle.bits.specs.Bits.{bits_of}
use Rattle.mv_cache.specs.NeighboursLaws.{Ranged}
use Rattle.macroblock.specs.Macroblock.{Given, cols}
use Rattle.macroblock.specs.Limit.{can_skip_rest}
use Rattle.macroblock.specs.Choice.{Task}
use Rattle.macroblock.specs.Slices.{Lent, BlockSlice, blocks_in}
use Rattle.plane_enc.specs.declared.svq1_enc_inter.WriteEnd.{WriteEnd}
use Rattle.plane.specs.RunLaws.{Midway}
use Rattle.plane.specs.Plane.{count, to_write, write_step, write_plane}
use Rattle.plane.specs.Calls.{PlaneAnswer}
use Rattle.plane.specs.PlaneNeeds.{PlaneReady, SameLengths}

-- the answer of the writer
abbrev pub write_end_of : WriteEnd → PlaneAnswer
write_end_of r = record { refusal = number_told r.refused; done = r.done; next = r.next; bits = r.bits; error = r.error }

-- a plane that is not refused is written as far as it goes
abbrev pub WrittenThrough : Given → Task → ℕ → Lent → WriteEnd → Lent → Type 0
WrittenThrough g t start l r l' =
    write_plane g t (bits_of l.out) start l.slices
    ≡ record { refusal = number_told r.refused; done = r.done; state = record { out = bits_of l'.out; next = r.next; slices = l'.slices; bits = r.bits; error = r.error } }

-- what a plane that no refusal meets is written from: what passes, with the codebook's raised copy, and a source and a reference of bytes
pub record Writes (g : Given) (raised : List ℕ) (t : Task) (start : ℕ) (l : Lent) : Type 0 where
  pub ready : PlaneReady g raised l.slices (length l.out) start
  pub samples : length t.source ≡ g.width * g.height
  pub source_bytes : Bytes t.source
  pub reference_bytes : Bytes g.reference.samples

-- before macroblock k, with l left of l₀: the run is on its way, the lengths are what they were, the vectors stored are in -32..31, the totals are far from overflowing, and a SKIP
-- code is left for each macroblock to come
pub record Underway (g : Given) (t : Task) (start : ℕ) (l₀ l : Lent) (k at bits error : ℕ) : Type 0 where
  pub out_same : length l.out ≡ length l₀.out
  pub same : SameLengths l₀.slices l.slices
  pub within : at ≤ 8 * length l.out
  pub ranged : (b : BlockSlice) → Ranged (cols g) k (blocks_in b l.slices)
  pub few_bits : bits ≤ k * 65536
  pub low_error : error ≤ k * 16777216
  pub skips_rest : can_skip_rest t.limit g k bits ≡ true
  pub loop : Midway (write_step g t) (count g) (to_write (bits_of l₀.out) start l₀.slices) k (record { out = bits_of l.out; next = at; slices = l.slices; bits = bits; error = error })
