-- A plane, written and read macroblock by macroblock, from any start bit, ended early or not (document 01, "Rust forms that need another build", "Files as they stay", "Reading", refusals 10, 11, 22, 24).
use Rattle.std.specs.Prelude.{ℕ, suc, ◌+◌, ◌-◌, ◌*◌, ◌≤◌, ◌<◌, Bool, true, List, ◌≡◌, leb, length, drop}
use Rattle.bits.specs.Basics.{pick}
use Rattle.bits.specs.Bits.{put_bits}
use Rattle.code_tables.specs.Codes.{Got, got, bad}
use Rattle.tree.specs.Plan.{Weight}
use Rattle.macroblock.specs.declared.svq1_enc_inter.Svq1MbMode.{Svq1MbMode}
use Rattle.macroblock.specs.Macroblock.{Given, cols, rows, Choice, mode_of, choice_bits}
use Rattle.macroblock.specs.Limit.{can_skip_rest}
use Rattle.macroblock.specs.Choice.{Task, without_limit, weight_of, chosen}
use Rattle.macroblock.specs.Reading.{read_macroblock}
use Rattle.macroblock.specs.Slices.{Slices, near, laid}
use Rattle.plane.specs.Run.{Step, on, stop, End, run, after}

-- the macroblocks of a plane
abbrev pub count : Given → ℕ
count g = rows g * cols g

-- ---- the writer
-- its state: the output's bits, the next bit, the slices, both totals
pub record Writing : Type 0 where
  pub out : List ℕ
  pub next : ℕ
  pub slices : Slices
  pub bits : ℕ
  pub error : ℕ

-- what is written for macroblock k in a state, and what it weighs
abbrev pub wrote : Given → Task → ℕ → Writing → Choice
wrote g t k s = chosen g t k (near g s.slices k) s.bits

abbrev pub wrote_weight : Given → Task → ℕ → Writing → Weight
wrote_weight g t k s = weight_of g t k (near g s.slices k) (wrote g t k s)

abbrev pub wrote_bits : Given → Task → ℕ → Writing → List ℕ
wrote_bits g t k s = choice_bits g (near g s.slices k) (wrote g t k s)

-- what a macroblock's step states: its mode, bits and error
pub record StepStated : Type 0 where
  pub mode : Svq1MbMode
  pub bits : ℕ
  pub error : ℕ

abbrev pub step_stated : Given → Task → ℕ → Writing → StepStated
step_stated g t k s = record { mode = mode_of (wrote g t k s); bits = (wrote_weight g t k s).bits; error = (wrote_weight g t k s).err }

-- it fits
abbrev pub fits : Given → Task → ℕ → Writing → Bool
fits g t k s = leb (s.next + (wrote_weight g t k s).bits) (length s.out)

-- the state behind it
unfoldable pub written : Given → Task → ℕ → Writing → Writing
written g t k s = record {
  out = put_bits s.out s.next (wrote_bits g t k s);
  next = s.next + (wrote_weight g t k s).bits;
  slices = laid g k (wrote g t k s) s.slices;
  bits = s.bits + (wrote_weight g t k s).bits;
  error = s.error + (wrote_weight g t k s).err;
}

-- 22: the next macroblock does not fit
abbrev pub write_step : Given → Task → ℕ → Writing → Step Writing
write_step g t k s = pick (fits g t k s) (on (written g t k s)) (stop 22)

-- an output's bits, the start bit, and what the slices held
abbrev pub to_write : List ℕ → ℕ → Slices → Writing
to_write out start s = record { out = out; next = start; slices = s; bits = 0; error = 0 }

unfoldable pub write_plane : Given → Task → List ℕ → ℕ → Slices → End Writing
write_plane g t out start s = run (write_step g t) (count g) 0 (to_write out start s)

-- the state before macroblock k of a plane that is written that far
abbrev pub writing_at : Given → Task → List ℕ → ℕ → Slices → ℕ → Writing
writing_at g t out start s k = after (written g t) (to_write out start s) k

-- as far as the plane goes without its limit, each mode written fits it
abbrev pub FirstFits : Given → Task → List ℕ → ℕ → Slices → Type 0
FirstFits g t out start s =
    (k : ℕ) → k < count g → k ≤ (write_plane g (without_limit t) out start s).done
    → can_skip_rest t.limit g (suc k) ((writing_at g (without_limit t) out start s k).bits + (wrote_weight g (without_limit t) k (writing_at g (without_limit t) out start s k)).bits) ≡ true

-- ---- the reader, over the bits of a bit string
pub record ReadingState : Type 0 where
  pub next : ℕ
  pub slices : Slices

-- a macroblock that its bits give whole is laid; else 10, 11 or 24, whichever is met first
abbrev pub taken : Given → ℕ → ℕ → Slices → Got Choice → Step ReadingState
taken g len k s (got c rest) = on (record { next = len - length rest; slices = laid g k c s })
taken g len k s (bad n) = stop n

unfoldable pub read_step : Given → List ℕ → ℕ → ReadingState → Step ReadingState
read_step g bits k r = taken g (length bits) k r.slices (read_macroblock g (near g r.slices k) (drop r.next bits))

-- the first n macroblocks
unfoldable pub read_up_to : Given → List ℕ → ℕ → Slices → ℕ → End ReadingState
read_up_to g bits start s n = run (read_step g bits) n 0 (record { next = start; slices = s })

unfoldable pub read_plane : Given → List ℕ → ℕ → Slices → End ReadingState
read_plane g bits start s = read_up_to g bits start s (count g)
