-- The scene's parts one behind the other. Assumes nothing.
use native.Mathlib.Omega.{arith}
use Rattle.replay.specs.LayoutLaws.{small_area, sized_ends, sized_whole}
use Rattle.replay.proofs.inner.file.sized_scene.Goals as goal

pub overflow_mul-samples : goal.overflow_mul-samples
overflow_mul-samples c =
    let p = c.requires in
    omega (arith, small_area _ _ p.1 p.2)

pub overflow_mul-size : goal.overflow_mul-size
overflow_mul-size c = omega (arith, small_area _ _ c.padded-stride.ensures.1 c.padded-rows.ensures.1)

pub overflow_add-samples : goal.overflow_add-samples
overflow_add-samples c =
    let p = c.requires in
    omega (arith, small_area _ _ p.1 p.2)

pub overflow_add-samples-2 : goal.overflow_add-samples-2
overflow_add-samples-2 c =
    let p = c.requires in
    omega (arith, small_area _ _ p.1 p.2, small_area _ _ c.padded-stride.ensures.1 c.padded-rows.ensures.1)

pub returns-then-file-at : goal.returns-then-file-at
returns-then-file-at c =
    let a = c.args in
    sized_ends a.file.now a.at a.width a.height _ _ c.padded-stride.ensures.0 c.padded-rows.ensures.0 (omega arith) c.if-file-at.true

pub returns : goal.returns
returns c =
    let a = c.args in
    sized_whole a.file.now a.at a.width a.height _ _ c.padded-stride.ensures.0 c.padded-rows.ensures.0 _ c.if-file-at.false c.byte.ensures
