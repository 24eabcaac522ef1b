-- The contract of the writer that tells, its answer as the struct. Assumes nothing.
use Rattle.cabunlis.specs.HostLaws.{host_stated}
use Rattle.cabunlis.proofs.planes.cabunlis2_encode_inter_plane_stated.Goals as goal

pub returns : goal.returns
returns c =
    let e = c in
    host_stated _ _ _ _ _ _ _ _ _ (rw e.settings_of-settings.ensures at e.encode_inter_plane_stated-e.ensures) c.plane_answer.ensures
