-- The tree behind the motion. Assumes nothing.
use borrow.Author.Rules.{rules}
use Rattle.mv_cache.specs.CacheNeeds.{near_from}
use Rattle.macroblock.specs.Mode.{mode_position}
use Rattle.macroblock_dec.specs.ReadNeedsLaws.{motion_refused, tree_refused, coded_found}
use Rattle.macroblock_dec.proofs.svq1_plane.inner.reading.read_coded.Goals as goal

pub returns-in_err-moved : goal.returns-in_err-moved
returns-in_err-moved c =
    let a = c.args in
    let e = motion_refused a.s.now a.book.now (near_from a.near) a.at (mode_position a.mode) _ c.requires.1 c.in_err-moved.ensures in
    search (rules, e)

pub returns-in_err-tree : goal.returns-in_err-tree
returns-in_err-tree c =
    let a = c.args in
    let m = c.in_ok-moved.moved in
    let e = tree_refused a.s.now a.book.now (near_from a.near) a.at (mode_position a.mode) m c.requires.1 c.in_ok-moved.ensures _ _ (c.half_of.ensures m.vectors) c.in_err-tree.ensures in
    search (rules, e)

pub returns : goal.returns
returns c =
    let a = c.args in
    let m = c.in_ok-moved.moved in
    coded_found a.s.now a.book.now (near_from a.near) a.at (mode_position a.mode) m c.requires.1 c.in_ok-moved.ensures _ _ (c.half_of.ensures m.vectors) c.in_ok-tree.ensures
