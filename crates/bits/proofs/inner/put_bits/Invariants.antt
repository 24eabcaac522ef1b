use Prim.Native.Nat.{◌+◌, ◌-◌, ◌/◌, ◌^◌, ◌≤◌}
use mathlib.Core.Path.{◌≡◌}
use lib.ListN.{length}
use Rattle.bits.specs.Bits.{msb, bits_of, put_bits}
use Rattle.bits.proofs.inner.put_bits.Given as goal

abbrev pub invariant-loop-left : goal.invariant-loop-left
invariant-loop-left l =
    (l.left ≤ l.width) × (l.p + l.left ≡ l.at + l.width) × (length l.out ≡ length l.initial.out)
    × (bits_of l.out ≡ put_bits (bits_of l.initial.out) l.at (msb (l.width - l.left) (l.value / 2 ^ l.left)))

abbrev pub decreases-loop-left : goal.decreases-loop-left
decreases-loop-left l = l.left
