-- The reference's block against the target, and the mode's bits. Assumes nothing.
use Rattle.macroblock.specs.MacroblockNeeds.{given_by}
use Rattle.macroblock.specs.SampleNeedsLaws.{cols_is}
use Rattle.macroblock_choice.specs.CandidateNeedsLaws.{skip_is, skip_stated, skip_error_lem}
use Rattle.macroblock_choice.proofs.svq1_enc_inter.inner.candidates.skip_over.Goals as goal

pub take_block-requires : goal.take_block-requires
take_block-requires c =
    let s = c in
    let e = cols_is _ _ _ s.requires.0 in
    (rw e s.requires.0, s.requires.3)

pub returns : goal.returns
returns c =
    let s = c in
    let a = s.args in
    let e = cols_is _ _ _ s.requires.0 in
    let z = c.skip_of.ensures in (
      skip_is _ _ _ z,
      λ codebook n.
          let g = given_by a.canvas a.reference.now a.book.now codebook in
          skip_stated _ _ _ z g a.target.now a.k n c.mb_mode_bits-bits.ensures.is (skip_error_lem g a.k _ _ a.target.now _ e c.distance_of-error.ensures c.take_block.ensures),
    )
