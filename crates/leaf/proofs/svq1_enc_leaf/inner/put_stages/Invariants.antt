use mathlib.Core.Path.{◌≡◌}
use Prim.Native.Nat.{◌+◌, ◌*◌}
use lib.ListN.{length, take}
use Rattle.bits.specs.BitNeeds.{Wrote}
use Rattle.leaf.specs.LeafBits.{stage_bits}
use Rattle.leaf.proofs.svq1_enc_leaf.inner.put_stages.Given as goal

abbrev pub invariant-loop-i : goal.invariant-loop-i
invariant-loop-i l = (length l.out ≡ length l.initial.out) × (l.p ≡ l.at + 4 * l.i) × Wrote l.initial.out l.at (stage_bits (take l.i l.stages)) l.p l.out
