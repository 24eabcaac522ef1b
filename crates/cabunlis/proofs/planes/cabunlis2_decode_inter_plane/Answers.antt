-- The reader's contract, its answer as the struct. Assumes nothing.
use Rattle.cabunlis.specs.HostLaws.{host_read}
use Rattle.cabunlis.proofs.planes.cabunlis2_decode_inter_plane.Goals as goal

pub returns : goal.returns
returns c = host_read _ _ _ _ _ _ _ c.decode_inter_plane-e.ensures c.answer.ensures
