-- A scene that was read is small enough. Assumes nothing.
use mathlib.Core.Path.{sym, ◌∙◌}
use Rattle.replay.specs.LayoutLaws.{scene_small}
use Rattle.replay.proofs.replay_scene.Goals as goal

pub replay_whole-requires : goal.replay_whole-requires
replay_whole-requires g c = scene_small c.args.file.now c.args.at _ (sym c.read_scene.ensures ∙ c.in-Ok.is)
