-- A plane written and read back, in memory (document 00, demand 3).
use Rattle.std.specs.Prelude.{◌≡◌, List, ℕ, ◌*◌, ◌/◌, ◌≤◌, ◌<◌, length, take, drop}
use Rattle.bits.specs.Bits.{bits_of}
use Rattle.plan.specs.PlanClaim.{largest_lambda}
use Rattle.macroblock.specs.Macroblock.{Given}
use Rattle.macroblock.specs.Choice.{Task}
use Rattle.macroblock.specs.Slices.{Slices, Lent, BlockSlice, blocks_in}
use Rattle.plane.specs.Plane.{count, step_stated}
use Rattle.plane.specs.Refusals.{write_refusal, slices_refusal}
use Rattle.plane.specs.Calls.{PlaneAnswer, PlaneRead}
use Rattle.plane_enc.specs.Stated.{three_of, PlaneStated}
use Rattle.claim.specs.Claim.{state_at, final, Claim}

-- the writer's answer w and what it left, l' of l and stated' of held, are the end that the claim speaks of
pub record Ended (g : Given) (t : Task) (start : ℕ) (l : Lent) (held : List ℕ) (w : PlaneAnswer) (l' : Lent) (stated' : List ℕ) : Type 0 where
  pub done : w.done ≡ count g
  pub next : w.next ≡ (final g t (bits_of l.out) start l.slices).next
  pub bits : w.bits ≡ (final g t (bits_of l.out) start l.slices).bits
  pub error : w.error ≡ (final g t (bits_of l.out) start l.slices).error
  pub output : bits_of l'.out ≡ (final g t (bits_of l.out) start l.slices).out
  pub slices : l'.slices ≡ (final g t (bits_of l.out) start l.slices).slices
  -- three numbers for each macroblock, as far as there is room: its mode's position, and the bits and the error that the claim speaks of
  pub stated : (k : ℕ) → k < count g → k < length held / 3 → take 3 (drop (3 * k) stated') ≡ three_of (step_stated g t k (state_at g t (bits_of l.out) start l.slices k))

-- the reader's answer r and what it left, d', are the writer's; behind the block vectors d' is d
pub record Returned (g : Given) (w r : PlaneAnswer) (a' d d' : Slices) : Type 0 where
  pub refusal : r.refusal ≡ 0
  pub done : r.done ≡ w.done
  pub next : r.next ≡ w.next
  pub recon : d'.recon ≡ a'.recon
  pub blocks : (b : BlockSlice) → take (4 * count g) (blocks_in b d') ≡ take (4 * count g) (blocks_in b a')
  pub rest : (b : BlockSlice) → drop (4 * count g) (blocks_in b d') ≡ drop (4 * count g) (blocks_in b d)

-- what writer and reader are lent, or have left: the writer's output and slices, its slice of stated numbers, and the reader's slices
pub record TripLent : Type 0 where
  pub written : Lent
  pub stated : List ℕ
  pub back : Slices

abbrev pub trip_by : Lent → List ℕ → Slices → TripLent
trip_by l stated d = record { written = l; stated = stated; back = d }

-- a plane that no refusal meets, with lambda at most 2^48, written to its last macroblock
abbrev pub Whole : Given → Task → ℕ → Lent → PlaneAnswer → Type 0
Whole g t start l w = (write_refusal g t l.out start l.slices ≡ 0) × (t.settings.lambda ≤ largest_lambda) × (w.refusal ≡ 0)

-- a plane written, and read back from what was left: both calls answer as they do alone, w and r, and of every whole plane the claim holds, and it holds of memory
pub record RoundTrip (g : Given) (t : Task) (start : ℕ) (m : TripLent) (w r : PlaneAnswer) (m' : TripLent) : Type 0 where
  pub wrote : PlaneStated g t start m.written m.stated w m'.written m'.stated
  pub read : PlaneRead g m'.written.out start m.back r m'.back
  pub claim : Whole g t start m.written w → Claim g t (bits_of m.written.out) start m.written.slices × Ended g t start m.written m.stated w m'.written m'.stated
  pub returned : Whole g t start m.written w → slices_refusal g m.back ≡ 0 → Returned g w r m'.written.slices m.back m'.back
