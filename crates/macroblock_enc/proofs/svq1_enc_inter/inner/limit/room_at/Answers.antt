-- The SKIP code's length, and the macroblocks behind this one. Assumes nothing.
use Rattle.macroblock_enc.proofs.svq1_enc_inter.inner.limit.room_at.Goals as goal

pub room_of-requires : goal.room_of-requires
room_of-requires c = rw c.mb_mode_bits-skip.ensures.is c.requires.stays

pub returns : goal.returns
returns c = rw c.mb_mode_bits-skip.ensures.is at c.room_of.ensures
