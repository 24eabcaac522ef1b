-- Too short, too large, or by its size. Assumes nothing.
use native.Mathlib.Omega.{arith}
use Rattle.replay.specs.LayoutLaws.{scene_short, scene_wide, scene_high, scene_sized}
use Rattle.replay.proofs.inner.file.read_scene.Goals as goal

pub returns-then-file-at : goal.returns-then-file-at
returns-then-file-at c = scene_short _ _ (omega arith)

pub returns-then-file-at-lt4 : goal.returns-then-file-at-lt4
returns-then-file-at-lt4 c = scene_short _ _ (omega arith)

pub returns-then-width-gt64 : goal.returns-then-width-gt64
returns-then-width-gt64 c =
    let a = c.args in
    scene_wide a.file.now a.at (omega arith) _ _ c.number_at-width.ensures c.number_at-height.ensures c.if-width-gt64.true

pub returns-then-height-gt64 : goal.returns-then-height-gt64
returns-then-height-gt64 c =
    let a = c.args in
    scene_high a.file.now a.at (omega arith) _ _ c.number_at-width.ensures c.number_at-height.ensures c.if-width-gt64.false c.if-height-gt64.true

pub returns : goal.returns
returns c =
    let a = c.args in
    scene_sized a.file.now a.at (omega arith) _ _ c.number_at-width.ensures c.number_at-height.ensures _ c.if-width-gt64.false c.if-height-gt64.false c.sized_scene.ensures
