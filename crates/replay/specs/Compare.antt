-- What a job's replay is held against: the original's answer as the fixed list has it (oracle/README.md, "A batch").
use Rattle.std.specs.Prelude.{ℕ, zero, suc, ◌+◌, ◌*◌, ◌/◌, Bool, true, false, ◌&&◌, List, eqb, get_or, Option, Some, None}
use Rattle.bits.specs.Refusals.{number_told}
use Rattle.bits.specs.Basics.{pick}
use Rattle.text.specs.Text.{same}
use Rattle.plane_enc.specs.declared.svq1_enc_inter.WriteEnd.{WriteEnd}
use Rattle.plane_dec.specs.declared.svq1_plane.ReadEnd.{ReadEnd}
use Rattle.replay.specs.declared.inner.file.Job.{Job}
use Rattle.replay.specs.declared.inner.compare.Difference.{Difference}
use Rattle.replay.specs.declared.inner.compare.Difference.TheVariants.{Refusal, Done, Next, Count, Bits, Steps, Samples, X, Y}
use Rattle.replay.specs.Layout.{part_in, number_in, bytes_for}

-- the first n bytes of a list are those at a place of the file
abbrev pub same_part : List ℕ → List ℕ → ℕ → ℕ → Bool
same_part own file at n = same (part_in own 0 n) (part_in file at n)

-- macroblock k states the same: mode, bits and error stand in 1, 2 and 4 bytes of the original's steps, and are three of our numbers
unfoldable pub same_step : List ℕ → List ℕ → ℕ → Bool
same_step t s k =
    pick (eqb (number_in (part_in t (7 * k) 1)) (get_or s (3 * k) 0))
    (pick (eqb (number_in (part_in t (7 * k + 1) 2)) (get_or s (3 * k + 1) 0)) (eqb (number_in (part_in t (7 * k + 3) 4)) (get_or s (3 * k + 2) 0)) false)
    false

-- the first n macroblocks do
unfoldable pub same_steps : List ℕ → List ℕ → ℕ → Bool
same_steps t s zero = true
same_steps t s (suc n) = same_steps t s n && same_step t s n

-- how many of the first n macroblocks have a mode
unfoldable pub modes_in : List ℕ → ℕ → ℕ → ℕ
modes_in s mode zero = 0
modes_in s mode (suc n) = modes_in s mode n + pick (eqb (get_or s (3 * n) 0) mode) 1 0

-- ---- the first difference
-- of the samples and the vectors
unfoldable pub slices_differ : List ℕ → ℕ → Job → List ℕ → List ℕ → List ℕ → Option Difference
slices_differ f size j recon vx vy =
    let vectors = size / 256 * 4 in
    pick (same_part recon f j.recon size) (pick (same_part vx f j.vx vectors) (pick (same_part vy f j.vy vectors) None (Some Y)) (Some X)) (Some Samples)

-- of the bits and the steps
unfoldable pub coded_differ : List ℕ → ℕ → Job → List ℕ → List ℕ → Option Difference → Option Difference
coded_differ f size j out stated rest =
    let blocks = size / 256 in
    pick (same_part out f j.bits (bytes_for j.count)) (pick (same_steps (part_in f j.steps (7 * blocks)) stated blocks) rest (Some Steps)) (Some Bits)

-- of the writer's answer
unfoldable pub written_differ : ℕ → ℕ → WriteEnd → Option Difference → Option Difference
written_differ size n w rest =
    pick (eqb (number_told w.refused) 0) (pick (eqb w.done (size / 256)) (pick (eqb w.next n) (pick (eqb w.bits n) rest (Some Count)) (Some Next)) (Some Done)) (Some Refusal)

-- of the reader's
unfoldable pub read_differ : ℕ → ℕ → ReadEnd → Option Difference → Option Difference
read_differ size n r rest = pick (eqb (number_told r.refused) 0) (pick (eqb r.done (size / 256)) (pick (eqb r.next n) rest (Some Next)) (Some Done)) (Some Refusal)
