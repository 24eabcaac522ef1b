-- One case for each motion. Assumes nothing.
use native.Mathlib.Omega.{arith}
use Rattle.macroblock.specs.SampleNeedsLaws.{stands_at, over_none, over_one, over_four}
use Rattle.macroblock.proofs.svq1_enc_inter.inner.samples.baseline_of.Goals as goal

pub overflow_mul-x : goal.overflow_mul-x
overflow_mul-x c =
    let s = c in
    omega (arith, (stands_at _ _ _ s.requires.0).x_in, (stands_at _ _ _ s.requires.0).stride_most)

pub overflow_mul-y : goal.overflow_mul-y
overflow_mul-y c =
    let s = c in
    omega (arith, (stands_at _ _ _ s.requires.0).y_in, (stands_at _ _ _ s.requires.0).rows_most)

pub mc_macroblock-requires : goal.mc_macroblock-requires
mc_macroblock-requires c = let s = c in (stands_at _ _ _ s.requires.0, s.requires.1)

pub move_quarters-requires : goal.move_quarters-requires
move_quarters-requires c = let s = c in (stands_at _ _ _ s.requires.0, s.requires.1)

pub returns-in-None : goal.returns-in-None
returns-in-None c =
    let a = c.args in
    over_none a.canvas a.reference.now a.k a.motion a.vectors _ c.in-None.is (rw c.requires.1 at (c.fill.ensures.after (λ y h. h)))

pub returns-in-One : goal.returns-in-One
returns-in-One c =
    let s = c in
    let a = s.args in
    over_one a.canvas a.reference.now a.k a.motion a.vectors _ s.requires.0 _ _ c.in-One.is c.mc_macroblock.ensures

pub returns-in-Four : goal.returns-in-Four
returns-in-Four c =
    let s = c in
    let a = s.args in
    over_four a.canvas a.reference.now a.k a.motion a.vectors _ s.requires.0 c.in-Four.is c.move_quarters.ensures
