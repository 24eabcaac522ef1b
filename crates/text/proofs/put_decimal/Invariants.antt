use Prim.Native.Nat.{◌+◌, ◌-◌, ◌≤◌}
use mathlib.Core.Path.{◌≡◌}
use lib.ListN.{length, take, drop}
use Rattle.text.specs.WritingForms.{last_digits}
use Rattle.text.proofs.put_decimal.Given as goal

abbrev pub invariant-loop-i : goal.invariant-loop-i
invariant-loop-i l =
    (l.at ≤ l.i) × (l.i ≤ l.at + l.k) × (length l.out ≡ length l.initial.out) × (take l.i l.out ≡ take l.i l.initial.out)
    × (last_digits (l.i - l.at) l.m (drop l.i l.out) ≡ last_digits l.k l.n (drop (l.at + l.k) l.initial.out))
