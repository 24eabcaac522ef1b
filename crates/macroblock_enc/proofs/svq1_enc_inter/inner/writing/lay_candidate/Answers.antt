-- What is shown, and the vectors as they are stored. Assumes nothing.
use Rattle.macroblock.specs.Slices.{slices_by}
use Rattle.macroblock_enc.specs.WrittenNeedsLaws.{lays_candidate}
use Rattle.macroblock_enc.proofs.svq1_enc_inter.inner.writing.lay_candidate.Goals as goal

pub lay_choice-requires : goal.lay_choice-requires
lay_choice-requires c =
    let s = c in
    record {
      showing_if = rw c.is_skip-skip.ensures s.requires.shows;
      laying = s.requires.lays;
    }

pub returns : goal.returns
returns c =
    let s = c in
    let a = s.args in
    lays_candidate a.canvas a.reference.now a.raised.now a.k a.c _ (slices_by a.recon.now a.vx.now a.vy.now) _ c.is_skip-skip.ensures s.requires.vectors c.lay_choice.ensures
