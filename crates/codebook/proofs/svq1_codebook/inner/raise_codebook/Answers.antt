-- The pages of L3 stand first, and each level's begin where those of the level above end, so that the copy is there up to the payload's end.
-- Assumes nothing.
use native.Mathlib.Omega.{arith}
use Rattle.codebook.specs.Codebook.{page_offset}
use Rattle.codebook.specs.Raster.{raster_start}
use Rattle.codebook.specs.RaiseNeedsLaws.{vectors_of_lem, raise_begins, raise_ends}
use Rattle.codebook.proofs.svq1_codebook.inner.raise_codebook.Goals as goal

pub raise_level-requires : goal.raise_level-requires
unfolding page_offset raster_start
raise_level-requires c =
    let r = c in
    let pre = r.requires in
    (pre.0, vectors_of_lem _ r.raster_order-order.ensures 3 (omega arith), raise_begins _ _ pre.1)

pub raise_level-requires-2 : goal.raise_level-requires-2
unfolding page_offset raster_start
raise_level-requires-2 c =
    let l3 = c in
    let r = l3 in
    (r.requires.0, vectors_of_lem _ r.raster_order-order.ensures 2 (omega arith), l3.raise_level.ensures)

pub raise_level-requires-3 : goal.raise_level-requires-3
unfolding page_offset raster_start
raise_level-requires-3 c =
    let l2 = c in
    let l3 = l2 in
    let r = l3 in
    (r.requires.0, vectors_of_lem _ r.raster_order-order.ensures 1 (omega arith), l2.raise_level-2.ensures)

pub raise_level-requires-4 : goal.raise_level-requires-4
unfolding page_offset raster_start
raise_level-requires-4 c =
    let l1 = c in
    let l2 = l1 in
    let l3 = l2 in
    let r = l3 in
    (r.requires.0, vectors_of_lem _ r.raster_order-order.ensures 0 (omega arith), l1.raise_level-3.ensures)

pub returns : goal.returns
unfolding page_offset raster_start
returns c = raise_ends _ _ c.raise_level-4.ensures
