-- L0 to L3 have a page. Assumes nothing.
use native.Mathlib.Omega.{arith}
use Rattle.codebook.specs.CodebookCallsLaws.{page_nowhere}
use Rattle.codebook.proofs.svq1_codebook.half_byte_offset_in_payload.Goals as goal

pub returns : goal.returns
returns c = rw (← c.number-d.ensures.0) (page_nowhere c.number-d.result c.args.half (omega arith))
