-- `house_text::put_numbers` meets its contract: the lines of the bytes passed, and one more each turn. Assumes nothing.
use mathlib.Core.Path.{refl, ◌∙◌}
use native.Mathlib.Omega.{arith}
use Rattle.text.specs.PutLaws.{put_nothing, put_behind}
use Rattle.house_text.specs.HouseText.{number_lines}
use Rattle.house_text.specs.HouseTextLaws.{lines_more}
use Rattle.house_text.proofs.put_numbers.Goals as goal

pub loop-b-init : goal.loop-b-init
unfolding number_lines
loop-b-init c = (refl, put_nothing _ _)

pub loop-b-preserved : goal.loop-b-preserved
loop-b-preserved c =
    let codebook = c.args.codebook.now in (
      c.put_number-next.auto.out ∙ c.loop-b.invariant.0,
      rw (lines_more codebook c.loop-b.b-index (omega arith)) (put_behind c.loop-b.invariant.1 c.put_number-next.ensures),
    )
