-- The writer's contract, its answer as the struct. Assumes nothing.
use Rattle.cabunlis.specs.HostLaws.{host_written}
use Rattle.cabunlis.proofs.planes.cabunlis2_encode_inter_plane.Goals as goal

pub returns : goal.returns
returns c =
    let e = c in
    host_written _ _ _ _ _ _ _ (rw e.settings_of-settings.ensures at e.encode_inter_plane-e.ensures) c.plane_answer.ensures
