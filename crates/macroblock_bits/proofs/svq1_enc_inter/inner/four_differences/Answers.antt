-- Each predictor as it is computed. Assumes nothing.
use Rattle.macroblock_bits.proofs.svq1_enc_inter.inner.four_differences.Goals as goal

pub difference_of-first-requires : goal.difference_of-first-requires
difference_of-first-requires c = rw c.predict_first.ensures c.requires.0

pub difference_of-second-requires : goal.difference_of-second-requires
difference_of-second-requires c = rw c.predict_second.ensures c.requires.1

pub difference_of-third-requires : goal.difference_of-third-requires
difference_of-third-requires c = rw c.predict_third.ensures c.requires.2

pub difference_of-fourth-requires : goal.difference_of-fourth-requires
difference_of-fourth-requires c = rw c.predict_fourth.ensures c.requires.3

pub returns : goal.returns
returns c = rw (c.difference_of-first.ensures, c.predict_first.ensures, c.difference_of-second.ensures, c.predict_second.ensures, c.difference_of-third.ensures, c.predict_third.ensures, c.difference_of-fourth.ensures, c.predict_fourth.ensures)
