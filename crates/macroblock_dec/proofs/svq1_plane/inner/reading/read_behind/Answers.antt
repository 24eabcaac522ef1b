-- SKIP, or a motion and a tree. Assumes nothing.
use mathlib.Core.Path.{◌≡◌}
use native.Mathlib.Omega.{arith}
use Rattle.mv_cache.specs.CacheNeeds.{near_from}
use Rattle.macroblock.specs.Mode.{mode_position}
use Rattle.macroblock_dec.specs.ReadNeedsLaws.{skip_found}
use Rattle.macroblock_dec.proofs.svq1_plane.inner.reading.read_behind.Goals as goal

pub returns-in-Skip : goal.returns-in-Skip
returns-in-Skip c =
    let a = c.args in
    let last : mode_position a.mode ≡ 3 = rw c.in-Skip.is in
    skip_found a.s.now a.book.now (near_from a.near) a.at (mode_position a.mode) _ (omega arith) (omega (arith, c.requires.from.bits_fit)) c.skipped_at.ensures
