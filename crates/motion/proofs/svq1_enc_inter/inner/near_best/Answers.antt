-- The first k of the nine places around the vector are tried.
use Rattle.std.proofs.Common.{◌≡◌, arith}
use Rattle.motion.specs.ScanLaws.{around-none, around-step, around_all}
use Rattle.motion.proofs.svq1_enc_inter.inner.near_best.Goals as goal

pub loop-k-init : goal.loop-k-init
loop-k-init c = (around-none _ _ _, c.requires.1)

pub loop-k-preserved : goal.loop-k-preserved
loop-k-preserved c =
    let l = c.loop-k in
    let e = c.near_one-best.ensures in
    (around-step _ _ c.args.c l.k l.best c.near_one-best.result l.invariant.0 c.requires.1 e.0 e.1, e.2)

pub returns : goal.returns
returns c =
    let l = c.loop-k in
    let e : l.k ≡ 9 = omega arith in
    (around_all _ c.args.c l.best c.requires.1 (rw e at l.invariant.0), l.invariant.1)
