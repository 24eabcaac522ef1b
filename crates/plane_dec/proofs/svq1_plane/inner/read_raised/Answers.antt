-- The codebook raised, and then read with. Assumes nothing.
use Rattle.book.specs.BookLaws.{data_passes}
use Rattle.plane_dec.proofs.svq1_plane.inner.read_raised.Goals as goal

pub raise_codebook-requires : goal.raise_codebook-requires
raise_codebook-requires c = let s = c in ((data_passes _ _ s.requires.0.tables).0, s.requires.1)
