-- The three numbers stored, or no room for them. Assumes nothing.
use native.Mathlib.Omega.{arith}
use lib.ListN.{length-set}
use Rattle.plane_enc.specs.StatedLaws.{told_there, told_past}
use Rattle.plane_enc.proofs.svq1_enc_inter.inner.tell.Goals as goal

pub returns-then-stated-k : goal.returns-then-stated-k
returns-then-stated-k c = told_past _ _ _ _ _ c.if-stated-k.true

pub bounds-stated-at-2 : goal.bounds-stated-at-2
bounds-stated-at-2 c = simp length-set (omega arith)

pub bounds-stated-at-3 : goal.bounds-stated-at-3
bounds-stated-at-3 c = simp length-set (omega arith)

pub returns : goal.returns
returns c = rw c.position-position.ensures.0 (told_there _ _ _ _ _ c.if-stated-k.false)
