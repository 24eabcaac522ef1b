-- The rows up to row i are put; all of them are the macroblock's, and every other place is as it came.
use Rattle.std.proofs.Common.{◌*◌, arith, length}
use Rattle.mv_cache.specs.PutLaws.{length_to, RowSteps, row_steps, rows_none, rows_more, rows_all}
use Rattle.mv_cache.proofs.svq1_mv_cache.inner.put_part.Goals as goal
use Rattle.mv_cache.proofs.svq1_mv_cache.inner.put_part.Goals.{In-loop-i}

-- row i of the macroblock lies in the slice
row : (c : In-loop-i) → RowSteps c.args.side c.args.cols c.args.k c.loop-i.i (length c.args.out.now)
row c =
    let a = c.args in
    row_steps a.side a.cols a.k c.requires.0.some c.requires.0.wide a.out.now c.requires.0.holds c.loop-i.i c.loop-i-test.true

pub loop-i-init : goal.loop-i-init
loop-i-init c = rows_none c.args.side c.args.cols c.args.k c.requires.0.some c.requires.0.wide _ _

pub overflow_mul-o : goal.overflow_mul-o
overflow_mul-o c = omega (arith, row c)

pub overflow_add-o : goal.overflow_add-o
overflow_add-o c = omega (arith, row c)

pub overflow_mul-o-in-loop-i-2 : goal.overflow_mul-o-in-loop-i-2
overflow_mul-o-in-loop-i-2 c = omega (arith, row c)

pub overflow_add-o-in-loop-i : goal.overflow_add-o-in-loop-i
overflow_add-o-in-loop-i c = omega (arith, row c)

pub copy_row-requires : goal.copy_row-requires
copy_row-requires c =
    let a = c.args in
    let l = c.loop-i in
    (rw (l.invariant, length_to a.side a.cols a.k a.v.now (a.side * l.i) a.out.now) (row (goal.at.copy_row-requires c).In-loop-i).all, rw c.requires.1 (row (goal.at.copy_row-requires c).In-loop-i).own)

pub loop-i-preserved : goal.loop-i-preserved
loop-i-preserved c =
    let a = c.args in
    let l = c.loop-i in
    rows_more a.side a.cols a.k c.requires.0.some c.requires.0.wide a.v.now l.i a.out.now _ _ l.invariant c.copy_row.ensures

pub returns : goal.returns
returns c =
    let a = c.args in
    let l = c.loop-i in
    rows_all a.side a.cols a.k c.requires.0.some c.requires.0.wide a.v.now l.i a.out.now _ (omega arith) l.invariant
