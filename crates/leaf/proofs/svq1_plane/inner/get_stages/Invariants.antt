use mathlib.Core.Path.{◌≡◌}
use Rattle.bits.specs.Bits.{bits_of}
use Rattle.leaf.specs.LentNeeds.{padded, nibbles}
use Rattle.leaf.proofs.svq1_plane.inner.get_stages.Given as goal

abbrev pub invariant-loop-i : goal.invariant-loop-i
invariant-loop-i l = l.stages ≡ padded (nibbles (bits_of l.s) l.at l.i)
