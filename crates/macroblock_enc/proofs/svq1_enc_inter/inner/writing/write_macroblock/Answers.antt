-- What is chosen is written where it fits. Assumes nothing.
use mathlib.Core.Path.{◌≡◌}
use Rattle.mv_cache.specs.CacheNeeds.{near_from}
use Rattle.macroblock.specs.Slices.{Slices, slices_by, near}
use Rattle.macroblock.specs.MacroblockNeeds.{given_by}
use Rattle.macroblock.specs.MacroblockNeedsLaws.{fits, vectors_held}
use Rattle.macroblock_enc.specs.MbWrittenLaws.{sourced, near-around, reserving, write_ready, lay_ready, mb_written}
use Rattle.macroblock_enc.specs.LimitForms.{limit_of}
use Rattle.macroblock_enc.proofs.svq1_enc_inter.inner.writing.write_macroblock.Goals as goal

pub blocks_along-cols-requires : goal.blocks_along-cols-requires
blocks_along-cols-requires c =
    let s = c in
    let a = s.args in
    (fits (given_by a.canvas a.reference.now a.book.now a.codebook.now) a.raised.now s.requires.0.ok).width.most

pub blocks_along-rows-requires : goal.blocks_along-rows-requires
blocks_along-rows-requires c =
    let s = c in
    let a = s.args in
    (fits (given_by a.canvas a.reference.now a.book.now a.codebook.now) a.raised.now s.requires.0.ok).height.most

pub near_blocks-near-requires : goal.near_blocks-near-requires
near_blocks-near-requires c =
    let s = c in
    let a = s.args in
    let z : Slices = slices_by a.recon.now a.vx.now a.vy.now in
    let x = c.blocks_along-cols.ensures in
    let y = c.blocks_along-rows.ensures in
    rw (x, y) (vectors_held (given_by a.canvas a.reference.now a.book.now a.codebook.now) a.raised.now s.requires.0.ok z s.requires.0.held, s.requires.0.number)

pub room_at-room-requires : goal.room_at-room-requires
room_at-room-requires c =
    let s = c in
    let a = s.args in
    let z : Slices = slices_by a.recon.now a.vx.now a.vy.now in
    let x = c.blocks_along-cols.ensures in
    let y = c.blocks_along-rows.ensures in
    rw (x, y) (reserving (given_by a.canvas a.reference.now a.book.now a.codebook.now) a.raised.now a.source.now a.k _ _ z s.requires.0 a.limit a.spent s.requires.1)

pub choose_macroblock-c-requires : goal.choose_macroblock-c-requires
choose_macroblock-c-requires c =
    let s = c in
    let a = s.args in
    let z : Slices = slices_by a.recon.now a.vx.now a.vy.now in
    let x = c.blocks_along-cols.ensures in
    let y = c.blocks_along-rows.ensures in
    let e : near_from c.near_blocks-near.result ≡ near (given_by a.canvas a.reference.now a.book.now a.codebook.now) z a.k = rw (x, y) at c.near_blocks-near.ensures in
    (sourced (given_by a.canvas a.reference.now a.book.now a.codebook.now) a.raised.now a.source.now a.k _ _ z s.requires.0, rw e (near-around (given_by a.canvas a.reference.now a.book.now a.codebook.now) a.raised.now a.source.now a.k _ _ z s.requires.0))

pub write_chosen-requires : goal.write_chosen-requires
write_chosen-requires c =
    let s = c in
    let a = s.args in
    let z : Slices = slices_by a.recon.now a.vx.now a.vy.now in
    let x = c.blocks_along-cols.ensures in
    let y = c.blocks_along-rows.ensures in
    let e : near_from c.near_blocks-near.result ≡ near (given_by a.canvas a.reference.now a.book.now a.codebook.now) z a.k = rw (x, y) at c.near_blocks-near.ensures in
    let er = rw (x, y) at c.room_at-room.ensures in
    let h = c.choose_macroblock-c.ensures (limit_of a.limit) in
    (write_ready a.canvas a.reference.now a.book.now a.codebook.now a.raised.now a.source.now a.settings a.limit a.spent a.k a.at a.out.now z s.requires.0 (λ j. (c.shared_slice_known-1.given j).fits) (λ j. (c.shared_slice_known-2-1.given j).fits) s.requires.1 _ e _ _ er h, lay_ready a.canvas a.reference.now a.book.now a.codebook.now a.raised.now a.source.now a.settings a.limit a.spent a.k a.at a.out.now z s.requires.0 (λ j. (c.shared_slice_known-1.given j).fits) (λ j. (c.shared_slice_known-2-1.given j).fits) s.requires.1 _ e _ _ er h)

pub returns : goal.returns
returns c =
    let s = c in
    let a = s.args in
    let z : Slices = slices_by a.recon.now a.vx.now a.vy.now in
    let x = c.blocks_along-cols.ensures in
    let y = c.blocks_along-rows.ensures in
    let e : near_from c.near_blocks-near.result ≡ near (given_by a.canvas a.reference.now a.book.now a.codebook.now) z a.k = rw (x, y) at c.near_blocks-near.ensures in
    let er = rw (x, y) at c.room_at-room.ensures in
    let w = c.write_chosen.ensures in
    mb_written a.canvas a.reference.now a.book.now a.codebook.now a.raised.now a.source.now a.settings a.limit a.spent a.k a.at a.out.now z s.requires.0 (λ j. (c.shared_slice_known-1.given j).fits) (λ j. (c.shared_slice_known-2-1.given j).fits) s.requires.1 _ e _ _ er (c.choose_macroblock-c.ensures (limit_of a.limit)) _ _ _ (λ j. (c.shared_slice_known-4-1.given j).fits) w.candidate_written w.candidate_laid
