-- The codebook raised, and then written with. Assumes nothing.
use Rattle.book.specs.BookLaws.{data_passes}
use Rattle.plane_enc.proofs.svq1_enc_inter.inner.write_raised.Goals as goal

pub raise_codebook-requires : goal.raise_codebook-requires
raise_codebook-requires c = let s = c in ((data_passes _ _ s.requires.0.tables).0, s.requires.2)

pub write_blocks-requires : goal.write_blocks-requires
write_blocks-requires c =
    let s = c in
    let p = s.requires.0 in
    (record { ok = record { size = p.size; canvas = p.canvas; tables = p.tables; copy = c.raise_codebook.ensures }; held = p.held; from = p.from }, s.requires.1, s.requires.3)

pub returns : goal.returns
returns c = c.write_blocks.ensures
