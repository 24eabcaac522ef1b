-- What stands behind a stage code, by its position. Assumes nothing.
use mathlib.Core.Path.{◌≡◌, ◌∙◌, sym}
use Prim.Native.Nat.{◌-◌, suc}
use native.Mathlib.Omega.{arith}
use lib.ListN.{drop}
use Rattle.bits.specs.Bits.{bits_of}
use Rattle.leaf.specs.LentReadLaws.{rest_skip, rest_closed, rest_open, refused_read}
use Rattle.leaf.proofs.svq1_plane.inner.read_rest.Goals as goal

pub returns-then-k-eq0 : goal.returns-then-k-eq0
returns-then-k-eq0 c =
    let a = c.args in
    rw (rest_skip a.half a.table.now a.level a.k (drop a.at (bits_of a.s.now)) c.if-k-eq0.true) c.read_skip.ensures

pub returns-then-stages_closed : goal.returns-then-stages_closed
returns-then-stages_closed c =
    let a = c.args in
    let b = bits_of a.s.now in
    let k : a.k ≡ suc (a.k - 1) = omega (arith, c.if-k-eq0.false) in
    refused_read _ b _ (sym (rest_closed a.half a.table.now a.level a.k (a.k - 1) (drop a.at b) k (sym c.stages_closed.ensures ∙ c.if-stages_closed.true)))

pub returns : goal.returns
returns c =
    let a = c.args in
    let k : a.k ≡ suc (a.k - 1) = omega (arith, c.if-k-eq0.false) in
    rw (rest_open a.half a.table.now a.level a.k (a.k - 1) (drop a.at (bits_of a.s.now)) k (sym c.stages_closed.ensures ∙ c.if-stages_closed.false))
    c.read_mean.ensures
