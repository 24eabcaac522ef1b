-- What reading the code finds. Assumes nothing.
use Rattle.macroblock_dec.specs.FindingNeedsLaws.{position_found}
use Rattle.macroblock_dec.proofs.svq1_plane.inner.codes.read_position.Goals as goal

pub returns : goal.returns
returns c = position_found c.args.s.now c.args.at c.args.table.now _ c.requires.0 c.read_code.ensures
