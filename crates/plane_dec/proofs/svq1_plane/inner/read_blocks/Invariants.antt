use Rattle.macroblock.specs.Slices.{slices_by}
use Rattle.macroblock.specs.MacroblockNeeds.{given_by}
use Rattle.plane_dec.specs.ReaderNeeds.{Going}
use Rattle.plane_dec.proofs.svq1_plane.inner.read_blocks.Given as goal

abbrev pub invariant-loop-k : goal.invariant-loop-k
invariant-loop-k l = Going (given_by l.canvas l.reference l.book l.codebook) l.bytes l.start (slices_by l.initial.recon l.initial.vx l.initial.vy) (slices_by l.recon l.vx l.vy) l.k l.at
