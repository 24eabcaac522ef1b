-- Each test decides one of the definition's. Assumes nothing.
use native.Mathlib.Omega.{arith}
use Rattle.plane.specs.RefusalsLaws.{few_blocks, small_canvas, short_x, short_y, recon_other, all_long}
use Rattle.plane.proofs.svq1_plane.inner.check_slices.Goals as goal

pub overflow_mul-blocks : goal.overflow_mul-blocks
overflow_mul-blocks c = let s = c in omega (arith, few_blocks s.args.canvas s.requires)

pub overflow_mul-blocks-2 : goal.overflow_mul-blocks-2
overflow_mul-blocks-2 c = let s = c in omega (arith, few_blocks s.args.canvas s.requires)

pub returns-then-slices-blocks : goal.returns-then-slices-blocks
returns-then-slices-blocks c = let s = c in λ r b k. short_x s.args.canvas s.requires s.args.slices r b k c.if-slices-blocks.true

pub returns-then-slices-blocks-2 : goal.returns-then-slices-blocks-2
returns-then-slices-blocks-2 c = let s = c in λ r b k. short_y s.args.canvas s.requires s.args.slices r b k c.if-slices-blocks.false c.if-slices-blocks-2.true

pub overflow_mul-canvas : goal.overflow_mul-canvas
overflow_mul-canvas c = let s = c in omega (arith, small_canvas s.args.canvas s.requires)

pub returns-then-slices-canvas : goal.returns-then-slices-canvas
returns-then-slices-canvas c = let s = c in λ r b k. recon_other s.args.canvas s.requires s.args.slices r b k c.if-slices-blocks.false c.if-slices-blocks-2.false c.if-slices-canvas.true

pub returns : goal.returns
returns c = let s = c in λ r b k. all_long s.args.canvas s.requires s.args.slices r b k c.if-slices-blocks.false c.if-slices-blocks-2.false c.if-slices-canvas.false
