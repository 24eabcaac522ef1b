use Prim.Native.Nat.{◌≤◌}
use mathlib.Core.Path.{◌≡◌}
use lib.ListN.{drop}
use Rattle.text.specs.ReadingForms.{digits_from}
use Rattle.text.proofs.read_digits.Given as goal

abbrev pub invariant-loop-c : goal.invariant-loop-c
invariant-loop-c l = (l.n ≤ l.most) × (digits_from l.most 0 l.t ≡ digits_from l.most l.n (drop l.c-index l.t))
