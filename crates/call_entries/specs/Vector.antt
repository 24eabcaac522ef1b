-- What the motion search answers, field by field (document 01, `svq1_enc_inter.rs`, refusals 1, 3, 4, 9 and 23).
use Rattle.std.specs.Prelude.{pos}
use Rattle.bits.specs.Refusals.{Answer, done, refused}
use Rattle.vectors.specs.declared.svq1_motion_predictor.Svq1Mv.{Svq1Mv}
use Rattle.call_entries.specs.declared.vector_part.VectorPart.{VectorPart}

-- the vector; or a refusal's number, everything else 0
abbrev pub vector_part : Answer Svq1Mv → VectorPart
vector_part (done v) = record { refused = 0; x = v.x; y = v.y }
vector_part (refused n) = record { refused = n; x = pos 0; y = pos 0 }
