use Prim.Native.Nat.{◌+◌, ◌-◌, ◌^◌, ◌≤◌, ◌<◌}
use mathlib.Core.Path.{◌≡◌}
use Rattle.text.specs.WritingForms.{digit_count}
use Rattle.text.proofs.digit_count.Given as goal

abbrev pub invariant-loop-m : goal.invariant-loop-m
invariant-loop-m l = (1 ≤ l.k) × (l.k ≤ 20) × (l.m < 10 ^ (21 - l.k)) × (l.k + digit_count (21 - l.k) l.m ≡ 1 + digit_count 20 l.n)

abbrev pub decreases-loop-m : goal.decreases-loop-m
decreases-loop-m l = l.m
