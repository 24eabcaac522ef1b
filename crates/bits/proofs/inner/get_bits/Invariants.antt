use Prim.Native.Nat.{◌+◌, ◌-◌, ◌≤◌}
use mathlib.Core.Path.{◌≡◌}
use lib.ListN.{take, drop}
use Rattle.bits.specs.Bits.{bits_of, val_of}
use Rattle.bits.proofs.inner.get_bits.Given as goal

abbrev pub invariant-loop-left : goal.invariant-loop-left
invariant-loop-left l =
    (l.left ≤ l.n) × (l.p + l.left ≡ l.at + l.n) × (l.acc ≡ val_of (take (l.n - l.left) (drop l.at (bits_of l.s))))

abbrev pub decreases-loop-left : goal.decreases-loop-left
decreases-loop-left l = l.left
