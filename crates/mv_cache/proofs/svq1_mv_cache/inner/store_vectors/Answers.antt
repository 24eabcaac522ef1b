-- Each slice has room for the macroblock's four places.
use Rattle.std.proofs.Common.{rules}
use Rattle.mv_cache.specs.CacheNeedsLaws.{room_x, room_y}
use Rattle.mv_cache.proofs.svq1_mv_cache.inner.store_vectors.Goals as goal

pub store_components-requires : goal.store_components-requires
store_components-requires c =
    let a = c.args in
    (room_x a.cols a.rows a.vx.now a.vy.now a.k c.requires.0 c.requires.1, search rules, search rules, search rules, search rules)

pub store_components-requires-2 : goal.store_components-requires-2
store_components-requires-2 c =
    let a = c.args in
    (room_y a.cols a.rows a.vx.now a.vy.now a.k c.requires.0 c.requires.1, search rules, search rules, search rules, search rules)
