-- SKIP, then one vector, none and four, each against the best so far. Assumes nothing.
use mathlib.Core.Path.{refl}
use Rattle.mv_cache.specs.CacheNeeds.{near_from}
use Rattle.macroblock.specs.MacroblockNeeds.{given_by}
use Rattle.macroblock.specs.MacroblockNeedsLaws.{stands, book_passes}
use Rattle.macroblock_choice.specs.ChosenNeedsLaws.{searching, carried, chosen_for}
use Rattle.macroblock_choice.proofs.svq1_enc_inter.inner.choice.choose_for.Goals as goal

pub skip_candidate-skip-requires : goal.skip_candidate-skip-requires
skip_candidate-skip-requires c =
    let s = c in
    let a = s.args in
    (stands (given_by a.canvas a.reference.now a.book.now a.codebook.now) a.raised.now s.requires.0.ok a.k s.requires.0.number, book_passes (given_by a.canvas a.reference.now a.book.now a.codebook.now) a.raised.now s.requires.0.ok, s.requires.0.whole)

pub single_motion-one-requires : goal.single_motion-one-requires
single_motion-one-requires c =
    let s = c in
    let a = s.args in
    (searching a.canvas a.reference.now a.book.now a.codebook.now a.raised.now a.k a.target.now s.requires.0, s.requires.1)

pub try_found-a-requires : goal.try_found-a-requires
try_found-a-requires c =
    let s = c in
    let a = s.args in
    let f = c.single_motion-one.ensures in
    (s.requires.0, f.codes, carried _ f, c.skip_candidate-skip.ensures.1 a.codebook.now (near_from a.near))

pub try_motion-b-requires : goal.try_motion-b-requires
try_motion-b-requires c =
    let s = c in
    let a = s.args in
    let e = c.still_motion-still.ensures in
    (s.requires.0, rw e tt, rw e (record { stored = refl; differs = tt }), c.try_found-a.ensures.stated)

pub four_motion-more-requires : goal.four_motion-more-requires
four_motion-more-requires c =
    let s = c in
    let a = s.args in
    (searching a.canvas a.reference.now a.book.now a.codebook.now a.raised.now a.k a.target.now s.requires.0, s.requires.1)

pub try_found-requires : goal.try_found-requires
try_found-requires c =
    let s = c in
    let f = c.four_motion-more.ensures in
    (s.requires.0, f.codes, carried _ f, c.try_motion-b.ensures.stated)

pub returns : goal.returns
returns c =
    let s = c in
    let a = s.args in
    chosen_for a.canvas a.reference.now a.book.now a.codebook.now a.target.now a.settings a.room a.k (near_from a.near) _ _ _ _ _ _ _ c.skip_candidate-skip.ensures.0 c.single_motion-one.ensures c.still_motion-still.ensures c.four_motion-more.ensures
    c.try_found-a.ensures c.try_motion-b.ensures c.try_found.ensures
